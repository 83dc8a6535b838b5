-- What serving the links of a door does, for any number of workers.
use Rattle.std.specs.Prelude.{◌≡◌, ◌⊎◌, ℕ, ◌≤◌, ℤ, List, [], ◌∷◌, map, length, flat_map, Option, Result, Ok, Err, All}
use Rattle.outside.specs.Faults.{Rose}
use Rattle.links.specs.Told.{more, Tells}
use Rattle.table_model.specs.History.{History}
use Rattle.table_model.specs.Table.{Table}
use Rattle.h2_record.specs.Written.{IsFront}
use Rattle.doors.specs.Door.{led_by}
use Rattle.open_tables.specs.Tables.{TableView, OpenTable, AreTheirs, specs_of}
use Rattle.call_plans.specs.Plans.{plan}
use Rattle.conn_service.specs.Computed.{histories_of}
use Rattle.server.specs.declared.faults.ServeFault.{ServeFault}
use Rattle.server.specs.declared.faults.ServeFault.TheVariants as fault
use Rattle.server.specs.Report.{Reports, ReportsPartly}
use Rattle.server.specs.Visits.{LinkShows, Visit, ServesInTurn}

-- What a door shows: the links left and those handed back, where it tells them, and how many are out.
pub record DoorShows (L : Type 0) : Type 0 where
  pub left : Option (List L)
  pub handed : Option (List L)
  pub out : ℕ

-- these links and then those, where they are told
abbrev pub led : {L : Type 0} → List L → Option (List L) → Option (List L)
led [] left = left
led (link ∷ links) left = led_by link (led links left)

-- the link is one of these
abbrev pub IsAmong : {L : Type 0} → L → List L → Type 0
IsAmong link [] = ⊥
IsAmong link (first ∷ links) = (link ≡ first) ⊎ IsAmong link links

-- What a worker did: its links, what its passes had seen at first and at last, and the readings of its clock then.
pub record Share (L : Type 0) : Type 0 where
  pub visits : List (Visit L)
  pub passes : List TableView
  pub after : List TableView
  pub since : Option (List ℤ)
  pub until : Option (List ℤ)

abbrev pub links_back : {L : Type 0} → Share L → List L
links_back share = map (λ visit. visit.back) share.visits

-- each is a front of the history of its table
abbrev pub AreFronts : List History → List History → Type 0
AreFronts [] [] = Unit {0}
AreFronts (front ∷ fronts) (history ∷ histories) = IsFront front history × AreFronts fronts histories
AreFronts _ _ = ⊥

-- the numbers of the passes differ for every table
abbrev pub Differ : (passes others : List TableView) → Type 0
Differ [] [] = Unit {0}
Differ (pass ∷ passes) (other ∷ others) = (pass.number ≡ other.number → ⊥) × Differ passes others
Differ _ _ = ⊥

-- those of any two workers do
abbrev pub EachDiffers : {L : Type 0} → List (Share L) → Type 0
EachDiffers [] = Unit {0}
EachDiffers (share ∷ shares) = All (λ other. Differ share.passes other.passes) shares × EachDiffers shares

-- A worker served its links, each one of those that the door gave, one after another: from what the given passes had seen
-- up to fronts of the histories.
pub record IsShare {L : Type 0} (shows : L → LinkShows) (tables : List OpenTable) (passes : List TableView) (gave : List L) (histories : List History) (share : Share L) : Type 0 where
  pub theirs : AreTheirs tables share.passes
  pub begins : histories_of share.passes ≡ histories_of passes
  pub among : All (λ visit. IsAmong visit.given gave) share.visits
  pub served : ServesInTurn shows (plan (specs_of tables)) share.visits share.passes share.after share.since share.until
  pub within : AreFronts (histories_of share.after) histories

-- The first worker read the given clock, each other one a clone of it: the readings that a clone has told when it is made
-- are for the clock to say, and what it tells later are its own.
abbrev pub HaveClocks : {L : Type 0} → (clones : Option (List ℤ) → Type 0) → (before now : Option (List ℤ)) → List (Share L) → Type 0
HaveClocks clones before now [] = now ≡ before
HaveClocks clones before now (share ∷ shares) = (share.since ≡ before) × (share.until ≡ now) × All (λ other. clones other.since) shares

-- what the passes of the first worker had seen at last; without one, what the given passes had
abbrev pub last_seen : {L : Type 0} → List TableView → List (Share L) → List TableView
last_seen passes [] = passes
last_seen passes (share ∷ shares) = share.after

abbrev pub entries_of : List Table → List History
entries_of engines = map (λ engine. engine.entries) engines

-- The door gave so many links, or has none left, and each was served, closed and handed back.
pub record ServesLinks {L : Type 0} (shows : L → LinkShows) (clones : Option (List ℤ) → Type 0) (tables : List OpenTable) (workers connections : ℕ) (passes : List TableView)
    (old new : DoorShows L) (before now : Option (List ℤ)) (histories : List History) : Type 0 where
  -- what the door gave
  pub gave : List L
  pub given : old.left ≡ led gave new.left
  pub enough : (length gave ≡ connections) ⊎ Tells new.left []
  -- as many were handed back: those of each worker in turn
  pub shares : List (Share L)
  pub few : length shares ≤ workers
  pub handed : new.handed ≡ more old.handed (flat_map links_back shares)
  pub as_many : length (flat_map links_back shares) ≡ length gave
  pub out : new.out ≡ old.out
  -- each worker served its own, by numbers of its own
  pub each : All (IsShare shows tables passes gave histories) shares
  pub differ : EachDiffers shares
  pub clocks : HaveClocks clones before now shares
  -- where one worker served all, or none had to, the histories have no entry but those that its passes had seen
  pub alone : length shares ≤ 1 → histories ≡ histories_of (last_seen passes shares)

-- The links of the door were served over the tables whose histories these engines have, and then one report was written
-- over the engines.
pub record ServesDoor {L : Type 0} (shows : L → LinkShows) (clones : Option (List ℤ) → Type 0) (tables : List OpenTable) (workers connections : ℕ) (passes : List TableView)
    (old new : DoorShows L) (before now : Option (List ℤ)) (taken0 taken : Option (List ℕ)) (engines : List Table) : Type 0 where
  pub links : ServesLinks shows clones tables workers connections passes old new before now (entries_of engines)
  pub last : List TableView
  pub reports : Reports tables last taken0 taken engines

-- Outside comes only where a count of faults rose, of the door or of the sink; else neither changed.
abbrev pub ServeCause : {T : Type 0} → (door0 door out0 out : ℕ) → Result T ServeFault → Type 0
ServeCause door0 door out0 out (Ok engines) = (door ≡ door0) × (out ≡ out0)
ServeCause door0 door out0 out (Err fault.Outside) = Rose door0 door ⊎ Rose out0 out
ServeCause door0 door out0 out (Err fault.Memory) = (door ≡ door0) × (out ≡ out0)

-- What was written where nothing is reported: nothing where the door failed or memory was wanting, else the first bytes of
-- a report.
abbrev pub WritesPartly : {T : Type 0} → List OpenTable → (door0 door : ℕ) → (taken0 taken : Option (List ℕ)) → Result T ServeFault → Type 0
WritesPartly tables door0 door taken0 taken (Ok engines) = Unit {0}
WritesPartly tables door0 door taken0 taken (Err fault.Outside) = (taken ≡ taken0) ⊎ ((door ≡ door0) × ((last : List TableView) × ReportsPartly tables last taken0 taken))
WritesPartly tables door0 door taken0 taken (Err fault.Memory) = taken ≡ taken0
