-- The connections of a door, over new tables.
use Rattle.std.proofs.Common.{◌≡◌, ℕ, ℤ, List, Option, sym, subst}
use Rattle.std.specs.Prelude.{Result, OnOk}
use Rattle.table_model.specs.Table.{Table}
use Rattle.table_spec.specs.declared.spec.TableSpec.{TableSpec}
use Rattle.command_line.specs.declared.line.CommandLine.{CommandLine}
use Rattle.command_line.specs.declared.line.CommandLine.TheVariants as line
use Rattle.open_tables.specs.Tables.{TableView, OpenTable, first_passes, specs_of}
use Rattle.conn_service.specs.Computed.{AreAlone}
use Rattle.conn_service.proofs.PassLemmas.{first-alone}
use Rattle.server.specs.declared.faults.ServeFault.{ServeFault}
use Rattle.server.specs.Visits.{LinkShows}
use Rattle.server.specs.Serving.{DoorShows, ServesDoor, ServeCause}
use Rattle.program.specs.Outside.{Objects, Shows}
use Rattle.program.specs.Serve.{ServesNew, WritesNewPartly, status_of_serve}
use Rattle.program.specs.Runs.{RunsServe, Runs}

pub alone_first : (tables : List OpenTable) (passes : List TableView) → passes ≡ first_passes tables → AreAlone passes
alone_first specs passes are = subst AreAlone (sym are) (first-alone specs).0

module _ {L : Type 0} (shows : L → LinkShows) (clones : Option (List ℤ) → Type 0) (specs : List TableSpec) (workers connections : ℕ) (old new : DoorShows L) (before now : Option (List ℤ)) (taken0 taken : Option (List ℕ)) where
  pub serves_new : (tables : List OpenTable) (passes : List TableView) (engines : List Table) → specs_of tables ≡ specs → passes ≡ first_passes tables
      → ServesDoor shows clones tables workers connections passes old new before now taken0 taken engines
      → ServesNew shows clones specs workers connections old new before now taken0 taken
  serves_new tables passes engines new_tables are served = record {
    tables = tables;
    engines = engines;
    new_tables = new_tables;
    served = subst (λ ps. ServesDoor shows clones tables workers connections ps old new before now taken0 taken engines) are served;
  }

-- the line of `serve`, with these tables
module _ {L D P C I O : Type 0} (shows : L → LinkShows) (clones : Option (List ℤ) → Type 0) (l : CommandLine) (listen : List ℕ) (workers connections : ℕ) (specs given : List TableSpec)
    (old new : Objects D P C I O) (before after : Shows L) (status : ℕ) (end : Result (Unit {0}) ServeFault) where
  pub served_line : l ≡ line.Serve listen workers connections specs → given ≡ specs → status ≡ status_of_serve end
      → OnOk end (ServesNew shows clones given workers connections before.door after.door before.pipe.readings after.pipe.readings before.streams.taken after.streams.taken)
      → ServeCause before.door_faults after.door_faults before.streams.sink_faults after.streams.sink_faults end
      → WritesNewPartly given before.door_faults after.door_faults before.streams.taken after.streams.taken end
      → new.pipe ≡ old.pipe → new.input ≡ old.input → Runs shows clones l old new before after status
  served_line is given_is status_is served cause partly pipe input =
      let runs : RunsServe shows clones workers connections specs old new before after status = record {
        end = end;
        status_is = status_is;
        served = subst (λ (ss : List TableSpec). OnOk end (ServesNew shows clones ss workers connections before.door after.door before.pipe.readings after.pipe.readings before.streams.taken after.streams.taken)) given_is served;
        cause = cause;
        partly = subst (λ (ss : List TableSpec). WritesNewPartly ss before.door_faults after.door_faults before.streams.taken after.streams.taken end) given_is partly;
        pipe = pipe;
        input = input;
      } in
      subst (λ (c : CommandLine). Runs shows clones c old new before after status) (sym is) runs
