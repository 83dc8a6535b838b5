-- What a CreateReadSession call asks: that its table begin a read session. The refusals come in this order: BadName (the
-- parent, then the table), NoTable, BadFormat, BadTime, NegativeCount, UnknownColumn (a selected field), those of the
-- restriction, and the table's.
use Rattle.std.specs.Prelude.{ℕ, ℤ, pos, int_lt, not, List, [], ◌∷◌, map, Option, Some, None, option_map, option_and_then, unwrap_or, slice_get, Result, Ok, Err}
use Rattle.std.specs.List.{range_with_len}
use Rattle.std.specs.Ordering.{int_eq}
use Rattle.column_types.specs.declared.column.Column.{Column}
use Rattle.column_types.specs.declared.predicate.Pred.{Pred}
use Rattle.column_types.specs.Fields.{fields_named, unknown_name, projected}
use Rattle.filter.specs.declared.fault.FilterFault.{FilterFault}
use Rattle.filter.specs.declared.fault.FilterFault.TheVariants as fault
use Rattle.filter.specs.Computed.{restriction_of}
use Rattle.avro_rows.specs.SchemaText.{schema_text_of}
use Rattle.resource_names.specs.declared.projects.ProjectName.{ProjectName}
use Rattle.resource_names.specs.declared.tables.TableName.{TableName}
use Rattle.resource_names.specs.Project.{project_name_of}
use Rattle.resource_names.specs.Read.{session_text}
use Rattle.resource_names.specs.Table.{table_name_of}
use Rattle.table_spec.specs.declared.spec.TableSpec.{TableSpec}
use Rattle.table_model.specs.declared.commands.Command.TheVariants as command
use Rattle.table_model.specs.declared.reasons.Refusal.{Refusal}
use Rattle.table_model.specs.declared.reasons.Why.TheVariants as why
use Rattle.table_model.specs.declared.replies.Reply.{Reply}
use Rattle.table_model.specs.declared.replies.Reply.TheVariants as reply
use Rattle.table_model.specs.Rules.{Rule, unless}
use Rattle.write_msgs.specs.declared.commit_parts.Timestamp.{Timestamp}
use Rattle.write_msgs.specs.declared.faults.MsgFault.{MsgFault}
use Rattle.read_msgs.specs.declared.options.TableReadOptions.{TableReadOptions}
use Rattle.read_msgs.specs.declared.sessions.ReadSession.{ReadSession}
use Rattle.read_msgs.specs.declared.sessions.CreateReadSessionRequest.{CreateReadSessionRequest}
use Rattle.read_msgs.specs.Sessions.{create_read_session_request_of}
use Rattle.read_msgs.specs.SessionsBytes.{read_session_bytes}
use Rattle.open_tables.specs.Plans.{Plan, Fixed, At, TurnFor, on_command}
use Rattle.conn_requests.specs.declared.answers.Answer.{Answer}
use Rattle.conn_requests.specs.Ends.{lost_answer}
use Rattle.call_plans.specs.declared.sessions.TheConstants.{AVRO}
use Rattle.call_plans.specs.Endings.{responded, refusal_answer, refused_for, unreadable, untold}
use Rattle.call_plans.specs.Moments.{timestamp}
use Rattle.call_plans.specs.Names.{on_table}
use Rattle.call_plans.specs.ReadNames.{read_stream}
use Rattle.call_plans.specs.Snapshots.{is_bad_time, micros_of}

-- ---- the message

-- A message that is absent is one without a field.
abbrev pub no_session : ReadSession
no_session = record {
  name = [];
  expire_time = None;
  data_format = pos 0;
  avro_schema = None;
  table = [];
  table_modifiers = None;
  read_options = None;
  streams = [];
}

abbrev pub no_options : TableReadOptions
no_options = record { selected_fields = []; row_restriction = [] }

abbrev pub session_in : CreateReadSessionRequest → ReadSession
session_in request = unwrap_or request.read_session no_session

abbrev pub options_in : ReadSession → TableReadOptions
options_in session = unwrap_or session.read_options no_options

abbrev pub time_in : ReadSession → Option Timestamp
time_in session = option_and_then (λ modifiers. modifiers.snapshot_time) session.table_modifiers

abbrev pub snapshot_in : ReadSession → Option ℤ
snapshot_in session = option_map micros_of (time_in session)

-- ---- the reply, and what is asked of the table

-- why a text is no restriction; want of memory is no fault of the definition
abbrev pub no_restriction : FilterFault → Answer
no_restriction fault.Memory = lost_answer
no_restriction fault.Long = refused_for why.Long
no_restriction (fault.Syntax at) = refused_for (why.Syntax at)
no_restriction (fault.UnknownColumn name) = refused_for (why.UnknownColumn name)
no_restriction (fault.IllTyped name) = refused_for (why.IllTyped name)

abbrev pub session_rules : ReadSession → (count : ℤ) → List Rule
session_rules session count =
    (not (int_eq session.data_format AVRO), why.BadFormat) ∷ (is_bad_time (time_in session), why.BadTime) ∷ (int_lt count (pos 0), why.NegativeCount) ∷ []

-- a session of a project, as it is asked for, of the table of these columns
module _ (project : ProjectName) (session : ReadSession) (place : ℕ) (columns : List Column) where
  -- the session of a number: its read streams are its roots, and its table is named as the request spells it
  abbrev pub described : (fields : List ℕ) → (number roots : ℕ) → (expires : ℤ) → ReadSession
  described fields number roots expires = record {
    name = session_text project.project place number;
    expire_time = Some (timestamp expires);
    data_format = AVRO;
    avro_schema = Some (record { schema = schema_text_of (projected fields columns) });
    table = session.table;
    table_modifiers = None;
    read_options = None;
    streams = map (read_stream project.project place number) (range_with_len 0 roots);
  }

  abbrev pub told_begun : (fields : List ℕ) → Reply → Answer
  told_begun fields (reply.Session number roots expires) = responded (read_session_bytes (described fields number roots expires))
  told_begun fields (reply.Refused refusal) = refusal_answer refusal
  told_begun fields _ = untold

-- with so many read streams as a count asks for
module _ (project : ProjectName) (session : ReadSession) (place : ℕ) (columns : List Column) (count : ℤ) where
  abbrev pub session_turn : (fields : List ℕ) → Pred → TurnFor Answer
  session_turn fields pred = on_command columns (command.Session pred fields count (snapshot_in session)) (told_begun project session place columns fields)

  -- over the rows that a restriction keeps
  abbrev pub session_over : (fields : List ℕ) → Result Pred FilterFault → Plan Answer
  session_over fields (Ok pred) = At place (session_turn fields pred)
  session_over fields (Err broken) = Fixed (no_restriction broken)

  -- with the columns of these names, unless no column has one: the first such is refused
  abbrev pub session_with : (names : List (List ℕ)) → (unknown : Option ℕ) → Plan Answer
  session_with names (Some at) = Fixed (refused_for (why.UnknownColumn (unwrap_or (slice_get names at) [])))
  session_with names None = session_over (fields_named columns names) (restriction_of columns (options_in session).row_restriction)

  abbrev pub session_by : Result (List (List ℕ)) Refusal → Plan Answer
  session_by (Err refusal) = Fixed (refusal_answer refusal)
  session_by (Ok names) = session_with names (unknown_name columns names)

abbrev pub session_of : ProjectName → ReadSession → (count : ℤ) → (place : ℕ) → TableSpec → Plan Answer
session_of project session count place spec = session_by project session place spec.schema count (unless (session_rules session count) (options_in session).selected_fields)

abbrev pub session_on : List TableSpec → ReadSession → (count : ℤ) → Option ProjectName → Option TableName → Plan Answer
session_on specs session count None table = Fixed (refused_for why.BadName)
session_on specs session count (Some project) None = Fixed (refused_for why.BadName)
session_on specs session count (Some project) (Some table) = on_table specs (refused_for why.NoTable) table (session_of project session count)

abbrev pub create_session_by : List TableSpec → Result CreateReadSessionRequest MsgFault → Plan Answer
create_session_by specs (Err broken) = Fixed (unreadable broken)
create_session_by specs (Ok request) =
    session_on specs (session_in request) request.max_stream_count (project_name_of request.parent) (table_name_of (session_in request).table)

unfoldable pub create_session_plan : List TableSpec → (message : List ℕ) → Plan Answer
create_session_plan specs message = create_session_by specs (create_read_session_request_of message)
