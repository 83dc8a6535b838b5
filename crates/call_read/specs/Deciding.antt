-- What a commit comes to before its table is asked.
use Rattle.std.specs.Prelude.{◌≡◌, ℕ, ◌<◌, List, length, slice_get, Some, Ok}
use Rattle.table_spec.specs.declared.spec.TableSpec.{TableSpec}
use Rattle.table_model.specs.declared.commands.Command.TheVariants as command
use Rattle.table_model.specs.declared.streams.StreamRef.{StreamRef}
use Rattle.write_msgs.specs.declared.commits.BatchCommitWriteStreamsRequest.{BatchCommitWriteStreamsRequest}
use Rattle.open_tables.specs.Tables.{OpenTable, specs_of}
use Rattle.open_tables.specs.Plans.{Fixed, At, on_command}
use Rattle.call_plans.specs.Endings.{refused_for}
use Rattle.call_plans.specs.Committed.{told_committed}
use Rattle.call_plans.specs.Committing.{commit_by}
use Rattle.call_read.specs.declared.deciding.Decided.{Decided}
use Rattle.call_read.specs.declared.deciding.Decided.TheVariants as decided

-- The plan of a request asks the table at this place to commit these streams, as many as the request names.
pub record IsAsked (tables : List OpenTable) (request : BatchCommitWriteStreamsRequest) (place : ℕ) (streams : List StreamRef) : Type 0 where
  pub spec : TableSpec
  pub found : slice_get (specs_of tables) place ≡ Some spec
  pub within : place < length tables
  pub each : length streams ≡ length request.write_streams
  pub plan : commit_by (specs_of tables) (Ok request) ≡ At place (on_command spec.schema (command.Commit streams) (told_committed request.write_streams))

abbrev pub Decides : List OpenTable → BatchCommitWriteStreamsRequest → Decided → Type 0
Decides tables request (decided.Refused cause) = commit_by (specs_of tables) (Ok request) ≡ Fixed (refused_for cause)
Decides tables request (decided.Asks place streams) = IsAsked tables request place streams
