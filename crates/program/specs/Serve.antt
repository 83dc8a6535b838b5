-- The command that serves the connections of a door.
use Rattle.std.specs.Prelude.{◌≡◌, ◌⊎◌, ℕ, ℤ, List, Option, Result, Ok, Err}
use Rattle.table_model.specs.Table.{Table}
use Rattle.table_spec.specs.declared.spec.TableSpec.{TableSpec}
use Rattle.open_tables.specs.Tables.{TableView, OpenTable, first_passes, specs_of}
use Rattle.server.specs.declared.faults.ServeFault.{ServeFault}
use Rattle.server.specs.declared.faults.ServeFault.TheVariants as fault
use Rattle.server.specs.Report.{ReportsPartly}
use Rattle.server.specs.Visits.{LinkShows}
use Rattle.server.specs.Serving.{DoorShows, ServesDoor}

-- The connections of a door were served over new tables, which these engines closed.
pub record ServesNew {L : Type 0} (shows : L → LinkShows) (clones : Option (List ℤ) → Type 0) (specs : List TableSpec) (workers connections : ℕ)
    (old new : DoorShows L) (before now : Option (List ℤ)) (taken0 taken : Option (List ℕ)) : Type 0 where
  pub tables : List OpenTable
  pub engines : List Table
  pub new_tables : specs_of tables ≡ specs
  pub served : ServesDoor shows clones tables workers connections (first_passes tables) old new before now taken0 taken engines

-- New tables were closed, and of their lines the first bytes were written, where the sink tells them.
pub record ReportsNewPartly (specs : List TableSpec) (taken0 taken : Option (List ℕ)) : Type 0 where
  pub tables : List OpenTable
  pub last : List TableView
  pub new_tables : specs_of tables ≡ specs
  pub reports : ReportsPartly tables last taken0 taken

-- What was written where nothing is reported: nothing where the door failed or memory was wanting, else the first bytes of
-- a report on new tables.
abbrev pub WritesNewPartly : {T : Type 0} → List TableSpec → (door0 door : ℕ) → (taken0 taken : Option (List ℕ)) → Result T ServeFault → Type 0
WritesNewPartly specs door0 door taken0 taken (Ok done) = Unit {0}
WritesNewPartly specs door0 door taken0 taken (Err fault.Outside) = (taken ≡ taken0) ⊎ ((door ≡ door0) × ReportsNewPartly specs taken0 taken)
WritesNewPartly specs door0 door taken0 taken (Err fault.Memory) = taken ≡ taken0

-- the status of the program
abbrev pub status_of_serve : {T : Type 0} → Result T ServeFault → ℕ
status_of_serve (Ok done) = 0
status_of_serve (Err fault.Outside) = 3
status_of_serve (Err fault.Memory) = 4
