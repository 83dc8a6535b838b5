-- A run of the program: its status, and what it did outside.
use Rattle.std.specs.Prelude.{◌≡◌, ℕ, ◌<◌, ◌≤◌, ℤ, true, List, Option, Result, OnOk}
use Rattle.std.proofs.Common.{◌⊎◌}
use Rattle.call_body.specs.declared.ends.BodyEnd.{BodyEnd}
use Rattle.table_spec.specs.declared.spec.TableSpec.{TableSpec}
use Rattle.command_line.specs.declared.line.CommandLine.{CommandLine}
use Rattle.command_line.specs.declared.line.CommandLine.TheVariants as line
use Rattle.command_line.specs.declared.line.LineFault.{LineFault}
use Rattle.command_line.specs.declared.line.LineFault.TheVariants as fault
use Rattle.open_tables.specs.Tables.{AreTables}
use Rattle.conn_service.specs.declared.ending.Ending.{Ending}
use Rattle.program.specs.Outside.{Objects, Shows}
use Rattle.program.specs.Body.{RanOver, status_of}
use Rattle.server.specs.declared.faults.ServeFault.{ServeFault}
use Rattle.server.specs.Visits.{LinkShows}
use Rattle.server.specs.Serving.{ServeCause}
use Rattle.program.specs.Pipe.{Pipes, status_of_ending}
use Rattle.program.specs.Serve.{ServesNew, WritesNewPartly, status_of_serve}
use Rattle.program.specs.declared.drills.DrillFault.{DrillFault}
use Rattle.program.specs.Drill.{Drills, status_of_drill}

-- The words are no line of a command: nothing outside is touched, and the status says so, unless memory was
-- wanting.
abbrev pub RunsNone : {D P C I O : Type 0} → (old new : Objects D P C I O) → (status : ℕ) → Type 0
RunsNone old new status = ((status ≡ 2) ⊎ (status ≡ 4)) × (new ≡ old)

-- `body`, with this table or with none: a body ends, the status is that of its end, and no connection is touched.
pub record RunsBody (table : Option TableSpec) {L D P C I O : Type 0} (old new : Objects D P C I O) (before after : Shows L) (status : ℕ) : Type 0 where
  pub end : BodyEnd
  pub status_is : status ≡ status_of end
  pub ran : RanOver table before.streams after.streams end
  pub door : new.door ≡ old.door
  pub pipe : new.pipe ≡ old.pipe
  pub clock : new.clock ≡ old.clock

-- `pipe`, with these tables: a connection ends, the status is that of its end, and door, input and output aren't touched.
-- The link is closed, unless memory was wanting.
pub record RunsPipe (specs : List TableSpec) {L D P C I O : Type 0} (old new : Objects D P C I O) (before after : Shows L) (status : ℕ) : Type 0 where
  pub end : Ending
  pub status_is : status ≡ status_of_ending end
  pub ran : Pipes specs before.pipe after.pipe end
  pub closed : (status ≡ 4) ⊎ (after.closed ≡ true)
  pub door : new.door ≡ old.door
  pub input : new.input ≡ old.input
  pub out : new.out ≡ old.out

-- `serve`, with so many workers, connections at most and these tables: where the status is 0, the connections of the door
-- were served over new tables, and these were reported. The status is 3 only where a count of faults rose, of the door or of
-- the output, and 4 where memory was wanting; then nothing was written or, only at 3 where that of the door didn't rise, the
-- first bytes of such a report. The link and the input aren't touched.
pub record RunsServe {L : Type 0} (shows : L → LinkShows) (clones : Option (List ℤ) → Type 0) (workers connections : ℕ) (specs : List TableSpec) {D P C I O : Type 0}
    (old new : Objects D P C I O) (before after : Shows L) (status : ℕ) : Type 0 where
  pub end : Result (Unit {0}) ServeFault
  pub status_is : status ≡ status_of_serve end
  pub served : OnOk end (ServesNew shows clones specs workers connections before.door after.door before.pipe.readings after.pipe.readings before.streams.taken after.streams.taken)
  pub cause : ServeCause before.door_faults after.door_faults before.streams.sink_faults after.streams.sink_faults end
  pub partly : WritesNewPartly specs before.door_faults after.door_faults before.streams.taken after.streams.taken end
  pub pipe : new.pipe ≡ old.pipe
  pub input : new.input ≡ old.input

-- `drill`: the status is that of its end, and nothing but the output is touched.
pub record RunsDrill {L D P C I O : Type 0} (old new : Objects D P C I O) (before after : Shows L) (status : ℕ) : Type 0 where
  pub end : Result (Unit {0}) DrillFault
  pub status_is : status ≡ status_of_drill end
  pub drills : Drills before.streams.taken after.streams.taken before.streams.sink_faults after.streams.sink_faults end
  pub door : new.door ≡ old.door
  pub pipe : new.pipe ≡ old.pipe
  pub clock : new.clock ≡ old.clock
  pub input : new.input ≡ old.input

-- What the line of each command does.
abbrev pub Runs : {L D P C I O : Type 0} → (shows : L → LinkShows) → (clones : Option (List ℤ) → Type 0) → CommandLine → (old new : Objects D P C I O) → (before after : Shows L) → (status : ℕ) → Type 0
Runs shows clones (line.Body table) old new before after status = RunsBody table old new before after status
Runs shows clones (line.Pipe specs) old new before after status = RunsPipe specs old new before after status
Runs shows clones (line.Serve listen workers connections specs) old new before after status = RunsServe shows clones workers connections specs old new before after status
Runs shows clones (line.Drill n) old new before after status = RunsDrill old new before after status

-- the tables of `pipe` and `serve` are some that a server can have, `serve` has a worker, and n of `drill` is 1 to 10,000
abbrev pub HasTables : CommandLine → Type 0
HasTables (line.Pipe specs) = AreTables specs
HasTables (line.Serve listen workers connections specs) = (0 < workers) × AreTables specs
HasTables (line.Drill n) = (0 < n) × (n ≤ 10000)
HasTables (line.Body table) = Unit {0}

-- the status where the words gave no line
abbrev pub status_without : LineFault → ℕ
status_without fault.Usage = 2
status_without fault.Memory = 4
