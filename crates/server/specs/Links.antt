-- What serving the links of a door leaves.
use Rattle.std.specs.Prelude.{◌≡◌, ℕ, ◌≤◌, ℤ, List, length, Option, Result, Ok, Err}
use Rattle.outside.specs.Faults.{Rose}
use Rattle.open_tables.specs.Tables.{TableView, OpenTable}
use Rattle.conn_service.specs.Computed.{AreAlone, histories_of}
use Rattle.server.specs.declared.faults.ServeFault.{ServeFault}
use Rattle.server.specs.declared.faults.ServeFault.TheVariants as fault
use Rattle.server.specs.Visits.{LinkShows}
use Rattle.server.specs.Serving.{DoorShows, ServesLinks}

-- The links were served up to what these passes have seen, which are alone where one worker served all.
pub record LeavesPasses {L : Type 0} (shows : L → LinkShows) (clones : Option (List ℤ) → Type 0) (tables : List OpenTable) (workers connections : ℕ) (passes after : List TableView)
    (old new : DoorShows L) (before now : Option (List ℤ)) : Type 0 where
  pub links : ServesLinks shows clones tables workers connections passes old new before now (histories_of after)
  pub alone : length links.shares ≤ 1 → AreAlone after

-- only a fault of the door changes its count
abbrev pub LinksCause : {T : Type 0} → ℕ → ℕ → Result T ServeFault → Type 0
LinksCause before now (Ok after) = now ≡ before
LinksCause before now (Err fault.Outside) = Rose before now
LinksCause before now (Err fault.Memory) = now ≡ before

-- want of memory never comes
abbrev pub AsksCause : {T : Type 0} → ℕ → ℕ → Result T ServeFault → Type 0
AsksCause before now (Ok after) = now ≡ before
AsksCause before now (Err fault.Outside) = Rose before now
AsksCause before now (Err fault.Memory) = ⊥
