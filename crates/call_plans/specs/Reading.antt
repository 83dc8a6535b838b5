-- What a ReadRows call asks: the rows of a read stream, from an offset on. The refusals come in this order: BadName,
-- NoRead, Expired, NegativeOffset, PastEnd. A read adds no entry.
use Rattle.std.specs.Prelude.{ℕ, ℤ, pos, nat_abs, int_lt, List, [], ◌∷◌, length, drop, Option, Some, None, slice_get, Result, Ok, Err}
use Rattle.std.specs.Int.{int_max}
use Rattle.column_types.specs.declared.column.Column.{Column}
use Rattle.column_types.specs.declared.row.Row.{Row}
use Rattle.split_tree.specs.declared.node.Interval.{Interval}
use Rattle.split_tree.specs.declared.node.Node.{Node}
use Rattle.read_cursor.specs.Lease.{shown}
use Rattle.row_responses.specs.Responses.{responses_of}
use Rattle.resource_names.specs.declared.read_streams.ReadName.{ReadName}
use Rattle.resource_names.specs.declared.read_streams.ReadPlace.{ReadPlace}
use Rattle.resource_names.specs.Read.{read_name_of}
use Rattle.table_spec.specs.declared.spec.TableSpec.{TableSpec}
use Rattle.table_model.specs.declared.reasons.Refusal.{Refusal}
use Rattle.table_model.specs.declared.reasons.Why.TheVariants as why
use Rattle.table_model.specs.History.{History, moment_of}
use Rattle.table_model.specs.Rules.{Rule, unless}
use Rattle.table_model.specs.Sessions.{Opened, session_of, is_expired}
use Rattle.table_model.specs.Visible.{visible_of}
use Rattle.write_msgs.specs.declared.faults.MsgFault.{MsgFault}
use Rattle.read_msgs.specs.declared.rows.ReadRowsRequest.{ReadRowsRequest}
use Rattle.read_msgs.specs.Rows.{read_rows_request_of}
use Rattle.open_tables.specs.Plans.{Plan, Fixed, At, TurnFor, on_history}
use Rattle.conn_requests.specs.declared.answers.Answer.{Answer}
use Rattle.conn_requests.specs.declared.answers.Answer.TheVariants as answer
use Rattle.call_plans.specs.Endings.{refusal_answer, refused_for, unreadable}
use Rattle.call_plans.specs.ReadNames.{on_read}

-- ---- the rows

-- the rows of an interval of a session, each with the session's columns alone
abbrev pub rows_of : Opened → Interval → History → List Row
rows_of session interval history = shown session.pred session.fields interval.from interval.upto (visible_of history)

-- `now` is the greater of the clock's reading and the moment of the history
abbrev pub read_rules : Opened → List Row → (offset now : ℤ) → List Rule
read_rules session rows offset now =
    (is_expired session.moment now, why.Expired) ∷ (int_lt offset (pos 0), why.NegativeOffset) ∷ (int_lt (pos (length rows)) offset, why.PastEnd) ∷ []

-- those from the offset on
abbrev pub rows_from : Opened → List Row → (offset now : ℤ) → Result (List Row) Refusal
rows_from session rows offset now = unless (read_rules session rows offset now) (drop (nat_abs offset) rows)

-- ---- the answer

-- the responses, and status 0
abbrev pub told_rows : List Column → (fields : List ℕ) → Result (List Row) Refusal → Answer
told_rows columns fields (Ok rows) = answer.Ends (responses_of columns fields rows) (record { code = 0; text = [] })
told_rows columns fields (Err refusal) = refusal_answer refusal

abbrev pub read_node : List Column → (offset : ℤ) → Opened → Option Node → History → (now : ℤ) → Answer
read_node columns offset session None history now = refused_for why.NoRead
read_node columns offset session (Some node) history now =
    told_rows columns session.fields (rows_from session (rows_of session node.interval history) offset (int_max (moment_of history) now))

abbrev pub read_session : List Column → (offset : ℤ) → Option Opened → (node : ℕ) → History → (now : ℤ) → Answer
read_session columns offset None node history now = refused_for why.NoRead
read_session columns offset (Some session) node history now = read_node columns offset session (slice_get session.nodes.list node) history now

unfoldable pub read_answer : List Column → (session node : ℕ) → (offset : ℤ) → History → (now : ℤ) → Answer
read_answer columns session node offset history now = read_session columns offset (session_of history session) node history now

-- ---- what is asked

abbrev pub read_turn : ReadPlace → (offset : ℤ) → List Column → TurnFor Answer
read_turn node offset columns = on_history (read_answer columns node.session node.node offset)

abbrev pub read_on : List TableSpec → ReadRowsRequest → Option ReadName → Plan Answer
read_on specs request None = Fixed (refused_for why.BadName)
read_on specs request (Some name) = on_read specs (refused_for why.NoRead) name (λ node spec. At node.table (read_turn node request.offset spec.schema))

abbrev pub read_by : List TableSpec → Result ReadRowsRequest MsgFault → Plan Answer
read_by specs (Err broken) = Fixed (unreadable broken)
read_by specs (Ok request) = read_on specs request (read_name_of request.read_stream)

unfoldable pub read_plan : List TableSpec → (message : List ℕ) → Plan Answer
read_plan specs message = read_by specs (read_rows_request_of message)
