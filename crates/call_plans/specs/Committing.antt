-- What a BatchCommitWriteStreams call asks: that the rows of PENDING write streams of one table be visible, all at once.
-- The refusals come in this order: BadName, NoTable, NoStreams, OtherTable, Twice, and the table's.
use Rattle.std.specs.Prelude.{ℕ, Bool, true, false, not, List, [], ◌∷◌, map, Option, Some, None, Result, Ok, Err, if◌then◌else◌}
use Rattle.std.specs.List.{list_any}
use Rattle.resource_names.specs.declared.tables.TableName.{TableName}
use Rattle.resource_names.specs.declared.write_streams.WriteName.{WriteName}
use Rattle.resource_names.specs.Table.{table_name_of}
use Rattle.resource_names.specs.Write.{write_name_of}
use Rattle.table_spec.specs.declared.spec.TableSpec.{TableSpec}
use Rattle.table_spec.specs.Columns.{all_of}
use Rattle.table_model.specs.declared.commands.Command.TheVariants as command
use Rattle.table_model.specs.declared.reasons.Why.TheVariants as why
use Rattle.write_msgs.specs.declared.faults.MsgFault.{MsgFault}
use Rattle.write_msgs.specs.declared.commits.BatchCommitWriteStreamsRequest.{BatchCommitWriteStreamsRequest}
use Rattle.write_msgs.specs.Commits.{batch_commit_write_streams_request_of}
use Rattle.open_tables.specs.Plans.{Plan, Fixed, At, on_command}
use Rattle.conn_requests.specs.declared.answers.Answer.{Answer}
use Rattle.call_plans.specs.Endings.{refused_for, unreadable}
use Rattle.call_plans.specs.Names.{on_table, is_one_table, ref_of}
use Rattle.call_plans.specs.Committed.{told_committed}
use Rattle.call_plans.specs.Twice.{repeats_unknown}

-- one of the streams is another table's
abbrev pub has_other_table : TableName → List WriteName → Bool
has_other_table table names = list_any (λ name. not (is_one_table table name.table)) names

abbrev pub is_none_named : List WriteName → Bool
is_none_named [] = true
is_none_named (name ∷ names) = false

-- The table's command tests the streams that it can have for one that is named twice; the message tests the others.
abbrev pub commit_of : TableName → (texts : List (List ℕ)) → List WriteName → (place : ℕ) → TableSpec → Plan Answer
commit_of table texts names place spec =
    if is_none_named names then Fixed (refused_for why.NoStreams)
    else if has_other_table table names then Fixed (refused_for why.OtherTable)
    else if repeats_unknown texts names then Fixed (refused_for why.Twice)
    else At place (on_command spec.schema (command.Commit (map (λ name. ref_of name.stream) names)) (told_committed texts))

-- the parent, then each stream, is a name
abbrev pub commit_on : List TableSpec → (texts : List (List ℕ)) → Option TableName → Option (List WriteName) → Plan Answer
commit_on specs texts None names = Fixed (refused_for why.BadName)
commit_on specs texts (Some table) None = Fixed (refused_for why.BadName)
commit_on specs texts (Some table) (Some names) = on_table specs (refused_for why.NoTable) table (commit_of table texts names)

abbrev pub commit_by : List TableSpec → Result BatchCommitWriteStreamsRequest MsgFault → Plan Answer
commit_by specs (Err broken) = Fixed (unreadable broken)
commit_by specs (Ok request) =
    commit_on specs request.write_streams (table_name_of request.parent) (all_of (map write_name_of request.write_streams))

unfoldable pub commit_plan : List TableSpec → (message : List ℕ) → Plan Answer
commit_plan specs message = commit_by specs (batch_commit_write_streams_request_of message)
