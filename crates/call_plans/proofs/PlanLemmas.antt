-- Every plan asks a table that is there, and its answer ends the call where what was asked does.
use Rattle.std.proofs.Common.{◌≡◌, ℕ, zero, suc, ◌<◌, ℤ, Bool, true, false, List, [], ◌∷◌, length, Option, Some, None, Result, Ok, Err, refl, arith, if◌then◌else◌}
use Rattle.std.specs.Prelude.{slice_get, not, is_ok, map}
use Rattle.std.proofs.lemmas.Option.{none-some}
use Rattle.column_types.specs.declared.column.Column.{Column}
use Rattle.column_types.specs.declared.predicate.Pred.{Pred}
use Rattle.column_types.specs.declared.row.Row.{Row}
use Rattle.column_types.specs.Fields.{unknown_name}
use Rattle.filter.specs.declared.fault.FilterFault.{FilterFault}
use Rattle.filter.specs.declared.fault.FilterFault.TheVariants as filter_fault
use Rattle.split_tree.specs.declared.node.Node.{Node}
use Rattle.grpc_meta.specs.declared.methods.Method.{Method}
use Rattle.grpc_meta.specs.declared.methods.Method.TheVariants as method
use Rattle.resource_names.specs.declared.tables.TableName.{TableName}
use Rattle.resource_names.specs.declared.write_streams.WriteName.{WriteName}
use Rattle.resource_names.specs.declared.projects.ProjectName.{ProjectName}
use Rattle.resource_names.specs.declared.read_streams.ReadName.{ReadName}
use Rattle.resource_names.specs.declared.read_streams.ReadPlace.{ReadPlace}
use Rattle.resource_names.specs.Project.{project_name_of}
use Rattle.resource_names.specs.Read.{read_name_of, place_of as place_of_read}
use Rattle.resource_names.specs.Table.{table_name_of, table_text}
use Rattle.resource_names.specs.Write.{write_name_of}
use Rattle.table_spec.specs.declared.spec.TableSpec.{TableSpec}
use Rattle.table_spec.specs.Columns.{all_of}
use Rattle.table_model.specs.declared.reasons.Refusal.{Refusal}
use Rattle.table_model.specs.declared.replies.Reply.{Reply}
use Rattle.table_model.specs.declared.replies.Reply.TheVariants as reply
use Rattle.table_model.specs.declared.streams.StreamKind.{StreamKind}
use Rattle.table_model.specs.History.{History}
use Rattle.table_model.specs.Rules.{unless}
use Rattle.table_model.specs.Sessions.{Opened, session_of}
use Rattle.read_msgs.specs.declared.sessions.ReadSession.{ReadSession}
use Rattle.read_msgs.specs.declared.sessions.CreateReadSessionRequest.{CreateReadSessionRequest}
use Rattle.read_msgs.specs.declared.streams.SplitReadStreamRequest.{SplitReadStreamRequest}
use Rattle.read_msgs.specs.declared.rows.ReadRowsRequest.{ReadRowsRequest}
use Rattle.read_msgs.specs.Sessions.{create_read_session_request_of}
use Rattle.read_msgs.specs.Streams.{split_read_stream_request_of}
use Rattle.read_msgs.specs.Rows.{read_rows_request_of}
use Rattle.write_msgs.specs.declared.faults.MsgFault.{MsgFault}
use Rattle.write_msgs.specs.declared.faults.MsgFault.TheVariants as fault
use Rattle.write_msgs.specs.declared.commits.BatchCommitWriteStreamsRequest.{BatchCommitWriteStreamsRequest}
use Rattle.write_msgs.specs.declared.request.AppendRowsRequest.{AppendRowsRequest}
use Rattle.write_msgs.specs.declared.stream_calls.GetWriteStreamRequest.{GetWriteStreamRequest}
use Rattle.write_msgs.specs.declared.stream_calls.FinalizeWriteStreamRequest.{FinalizeWriteStreamRequest}
use Rattle.write_msgs.specs.declared.stream_calls.FlushRowsRequest.{FlushRowsRequest}
use Rattle.write_msgs.specs.Request.{append_rows_request_of}
use Rattle.write_msgs.specs.Streams.{get_write_stream_request_of, finalize_write_stream_request_of, flush_rows_request_of}
use Rattle.write_msgs.specs.Commits.{batch_commit_write_streams_request_of}
use Rattle.schema_msgs.specs.declared.write_streams.CreateWriteStreamRequest.{CreateWriteStreamRequest}
use Rattle.schema_msgs.specs.Stream.{create_write_stream_request_of}
use Rattle.open_tables.specs.Tables.{place_of}
use Rattle.open_tables.specs.Plans.{Plan, Fixed, At, TurnFor}
use Rattle.conn_requests.specs.declared.asks.Ask.{Ask}
use Rattle.conn_requests.specs.declared.asks.Ask.TheVariants as ask
use Rattle.conn_requests.specs.declared.asks.Over.{Over}
use Rattle.conn_requests.specs.declared.asks.Over.TheVariants as over
use Rattle.conn_requests.specs.declared.answers.Answer.{Answer}
use Rattle.conn_requests.specs.Decided.{ends_call}
use Rattle.conn_requests.specs.Ends.{end_answer}
use Rattle.conn_requests.specs.Names.{Named}
use Rattle.call_plans.specs.Endings.{unreadable}
use Rattle.call_plans.specs.Names.{on_spec, on_place, on_table}
use Rattle.call_plans.specs.Appending.{append_on, append_by, append_plan}
use Rattle.call_plans.specs.Creating.{told_created, create_of, create_on, create_by, create_plan, kind_in}
use Rattle.call_plans.specs.Getting.{told_found, get_on, get_by, get_plan}
use Rattle.call_plans.specs.Finalising.{told_finalised, finalise_on, finalise_by, finalise_plan}
use Rattle.call_plans.specs.Flushing.{told_flushed, flush_on, flush_by, flush_plan}
use Rattle.call_plans.specs.Committed.{told_committed}
use Rattle.call_plans.specs.Twice.{repeats_unknown}
use Rattle.call_plans.specs.Committing.{has_other_table, is_none_named, commit_of, commit_on, commit_by, commit_plan}
use Rattle.call_plans.specs.ReadNames.{on_node}
use Rattle.call_plans.specs.Sessions.{told_begun, no_restriction, session_over, session_with, session_by, session_rules, options_in, session_in, session_on, create_session_by, create_session_plan}
use Rattle.call_plans.specs.Splitting.{told_split, split_on, split_by, split_plan}
use Rattle.call_plans.specs.Reading.{told_rows, read_node, read_session, read_answer, read_on, read_by, read_plan}
use Rattle.call_plans.specs.Plans.{call_plan, plan}
use Rattle.call_plans.specs.Laws.{AsksOneOf, Answers, ends}

pub record IsSound (tables : ℕ) (over : Bool) (asked : Plan Answer) : Type 0 where
  pub asks : AsksOneOf tables asked
  pub answers : Answers (λ given. ends given ≡ over) asked

fixed_sound : (tables : ℕ) (over : Bool) (due : Answer) → ends due ≡ over → IsSound tables over (Fixed due)
fixed_sound tables over due e = record { asks = tt; answers = e }

at_sound : (tables : ℕ) (over : Bool) (place : ℕ) (turn : TurnFor Answer) → place < tables
    → ((history : History) (caller : ℕ) (now : ℤ) → ends (turn history caller now).answer ≡ over) → IsSound tables over (At place turn)
at_sound tables over place turn inside each = record { asks = inside; answers = each }

if_sound : (tables : ℕ) (over test : Bool) (first second : Plan Answer) → IsSound tables over first → IsSound tables over second → IsSound tables over (if test then first else second)
if_sound tables over true first second a b = a
if_sound tables over false first second a b = b

-- ---- the table of a name

below : {X : Type 0} (xs : List X) (i : ℕ) (x : X) → slice_get xs i ≡ Some x → i < length xs
below [] i x e = absurd (none-some x e)
below (y ∷ xs) zero x e = omega arith
below (y ∷ xs) (suc i) x e = omega (arith, below xs i x e)

on_spec-sound : (specs : List TableSpec) (over : Bool) (missing : Answer) (asks : ℕ → TableSpec → Plan Answer) → ends missing ≡ over
    → ((place : ℕ) (spec : TableSpec) → place < length specs → IsSound (length specs) over (asks place spec))
    → (place : ℕ) (found : Option TableSpec) → slice_get specs place ≡ found → IsSound (length specs) over (on_spec missing place found (asks place))
on_spec-sound specs over missing asks e each place None is = fixed_sound (length specs) over missing e
on_spec-sound specs over missing asks e each place (Some spec) is = each place spec (below specs place spec is)

on_place-sound : (specs : List TableSpec) (over : Bool) (missing : Answer) (asks : ℕ → TableSpec → Plan Answer) → ends missing ≡ over
    → ((place : ℕ) (spec : TableSpec) → place < length specs → IsSound (length specs) over (asks place spec))
    → (place : Option ℕ) → IsSound (length specs) over (on_place specs missing place asks)
on_place-sound specs over missing asks e each None = fixed_sound (length specs) over missing e
on_place-sound specs over missing asks e each (Some place) = on_spec-sound specs over missing asks e each place (slice_get specs place) refl

on_table-sound : (specs : List TableSpec) (over : Bool) (missing : Answer) (name : TableName) (asks : ℕ → TableSpec → Plan Answer) → ends missing ≡ over
    → ((place : ℕ) (spec : TableSpec) → place < length specs → IsSound (length specs) over (asks place spec))
    → IsSound (length specs) over (on_table specs missing name asks)
on_table-sound specs over missing name asks e each = on_place-sound specs over missing asks e each (place_of specs (table_text name))

-- ---- what is told

unreadable-ends : (broken : MsgFault) → ends (unreadable broken) ≡ true
unreadable-ends fault.Memory = refl
unreadable-ends (fault.BadProto at) = refl
unreadable-ends (fault.Unsupported field) = refl
unreadable-ends (fault.BadUtf8 field) = refl

unreadable-sound : (specs : List TableSpec) (broken : MsgFault) → IsSound (length specs) true (Fixed (unreadable broken))
unreadable-sound specs broken = fixed_sound (length specs) true (unreadable broken) (unreadable-ends broken)

told_created-ends : (table : TableName) (columns : List Column) (kind : StreamKind) (told : Reply) → ends (told_created table columns kind told) ≡ true
told_created-ends table columns kind (reply.Created number moment) = refl
told_created-ends table columns kind (reply.Refused refusal) = refl
told_created-ends table columns kind _ = refl

told_found-ends : (name : WriteName) (view : ℤ) (columns : List Column) (told : Reply) → ends (told_found name view columns told) ≡ true
told_found-ends name view columns (reply.Stream kind created committed) = refl
told_found-ends name view columns (reply.Refused refusal) = refl
told_found-ends name view columns _ = refl

told_finalised-ends : (told : Reply) → ends (told_finalised told) ≡ true
told_finalised-ends (reply.Finalised rows) = refl
told_finalised-ends (reply.Refused refusal) = refl
told_finalised-ends _ = refl

told_flushed-ends : (told : Reply) → ends (told_flushed told) ≡ true
told_flushed-ends (reply.Flushed offset) = refl
told_flushed-ends (reply.Refused refusal) = refl
told_flushed-ends _ = refl

told_committed-ends : (texts : List (List ℕ)) (told : Reply) → ends (told_committed texts told) ≡ true
told_committed-ends texts (reply.Committed moment) = refl
told_committed-ends texts (reply.NotCommitted errors) = refl
told_committed-ends texts (reply.Refused refusal) = refl
told_committed-ends texts _ = refl

told_begun-ends : (project : ProjectName) (session : ReadSession) (place : ℕ) (columns : List Column) (fields : List ℕ) (told : Reply) → ends (told_begun project session place columns fields told) ≡ true
told_begun-ends project session place columns fields (reply.Session number roots expires) = refl
told_begun-ends project session place columns fields (reply.Refused refusal) = refl
told_begun-ends project session place columns fields _ = refl

no_restriction-ends : (broken : FilterFault) → ends (no_restriction broken) ≡ true
no_restriction-ends filter_fault.Memory = refl
no_restriction-ends filter_fault.Long = refl
no_restriction-ends (filter_fault.Syntax at) = refl
no_restriction-ends (filter_fault.UnknownColumn name) = refl
no_restriction-ends (filter_fault.IllTyped name) = refl

told_split-ends : (project : List ℕ) (node : ReadPlace) (told : Reply) → ends (told_split project node told) ≡ true
told_split-ends project node (reply.Children left right) = refl
told_split-ends project node reply.NoSplit = refl
told_split-ends project node (reply.Refused refusal) = refl
told_split-ends project node _ = refl

told_rows-ends : (columns : List Column) (fields : List ℕ) (rows : Result (List Row) Refusal) → ends (told_rows columns fields rows) ≡ true
told_rows-ends columns fields (Ok rows) = refl
told_rows-ends columns fields (Err refusal) = refl

read_session-ends : (columns : List Column) (offset : ℤ) (session : Option Opened) (node : ℕ) (history : History) (now : ℤ) → ends (read_session columns offset session node history now) ≡ true
read_session-ends columns offset None node history now = refl
read_session-ends columns offset (Some session) node history now = at_node (slice_get session.nodes.list node)
  where
    at_node : (found : Option Node) → ends (read_node columns offset session found history now) ≡ true
    at_node None = refl
    at_node (Some found) = told_rows-ends columns session.fields _

read_answer-ends : (columns : List Column) (session node : ℕ) (offset : ℤ) (history : History) (now : ℤ) → ends (read_answer columns session node offset history now) ≡ true
unfolding read_answer
read_answer-ends columns session node offset history now = read_session-ends columns offset (session_of history session) node history now

end_answer-ends : (end : Over) → ends (end_answer end) ≡ true
end_answer-ends over.Finished = refl
end_answer-ends over.CutShort = refl
end_answer-ends over.OneWanted = refl
end_answer-ends over.TooLong = refl
end_answer-ends over.Compressed = refl
end_answer-ends over.Coded = refl
end_answer-ends over.UnknownMethod = refl
end_answer-ends over.NotPost = refl
end_answer-ends over.NotGrpc = refl
end_answer-ends over.ListTooLarge = refl

-- ---- method by method

append_on-sound : (specs : List TableSpec) (named : Named) (request : AppendRowsRequest) (name : Option WriteName) → IsSound (length specs) false (append_on specs named request name)
append_on-sound specs named request None = fixed_sound _ _ _ refl
append_on-sound specs named request (Some name) = on_table-sound specs false _ name.table _ refl (λ place spec inside. at_sound _ _ place _ inside (λ history caller now. refl))

append_by-sound : (specs : List TableSpec) (named : Named) (read : Result AppendRowsRequest MsgFault) → IsSound (length specs) (not (is_ok read)) (append_by specs named read)
append_by-sound specs named (Ok request) = append_on-sound specs named request (write_name_of named.stream)
append_by-sound specs named (Err broken) = unreadable-sound specs broken

create_of-sound : (specs : List TableSpec) (table : TableName) (place : ℕ) (spec : TableSpec) (kind : Option StreamKind) → place < length specs
    → IsSound (length specs) true (create_of table place spec kind)
create_of-sound specs table place spec None inside = fixed_sound _ _ _ refl
create_of-sound specs table place spec (Some kind) inside = at_sound _ _ place _ inside (λ history caller now. told_created-ends table spec.schema kind _)

create_on-sound : (specs : List TableSpec) (request : CreateWriteStreamRequest) (table : Option TableName) → IsSound (length specs) true (create_on specs request table)
create_on-sound specs request None = fixed_sound _ _ _ refl
create_on-sound specs request (Some table) = on_table-sound specs true _ table _ refl (λ place spec. create_of-sound specs table place spec (kind_in request))

create_by-sound : (specs : List TableSpec) (read : Result CreateWriteStreamRequest MsgFault) → IsSound (length specs) true (create_by specs read)
create_by-sound specs (Ok request) = create_on-sound specs request (table_name_of request.parent)
create_by-sound specs (Err broken) = unreadable-sound specs broken

get_on-sound : (specs : List TableSpec) (request : GetWriteStreamRequest) (name : Option WriteName) → IsSound (length specs) true (get_on specs request name)
get_on-sound specs request None = fixed_sound _ _ _ refl
get_on-sound specs request (Some name) =
    on_table-sound specs true _ name.table _ refl (λ place spec inside. at_sound _ _ place _ inside (λ history caller now. told_found-ends name request.view spec.schema _))

get_by-sound : (specs : List TableSpec) (read : Result GetWriteStreamRequest MsgFault) → IsSound (length specs) true (get_by specs read)
get_by-sound specs (Ok request) = get_on-sound specs request (write_name_of request.name)
get_by-sound specs (Err broken) = unreadable-sound specs broken

finalise_on-sound : (specs : List TableSpec) (name : Option WriteName) → IsSound (length specs) true (finalise_on specs name)
finalise_on-sound specs None = fixed_sound _ _ _ refl
finalise_on-sound specs (Some name) = on_table-sound specs true _ name.table _ refl (λ place spec inside. at_sound _ _ place _ inside (λ history caller now. told_finalised-ends _))

finalise_by-sound : (specs : List TableSpec) (read : Result FinalizeWriteStreamRequest MsgFault) → IsSound (length specs) true (finalise_by specs read)
finalise_by-sound specs (Ok request) = finalise_on-sound specs (write_name_of request.name)
finalise_by-sound specs (Err broken) = unreadable-sound specs broken

flush_on-sound : (specs : List TableSpec) (request : FlushRowsRequest) (name : Option WriteName) → IsSound (length specs) true (flush_on specs request name)
flush_on-sound specs request None = fixed_sound _ _ _ refl
flush_on-sound specs request (Some name) = on_table-sound specs true _ name.table _ refl (λ place spec inside. at_sound _ _ place _ inside (λ history caller now. told_flushed-ends _))

flush_by-sound : (specs : List TableSpec) (read : Result FlushRowsRequest MsgFault) → IsSound (length specs) true (flush_by specs read)
flush_by-sound specs (Ok request) = flush_on-sound specs request (write_name_of request.write_stream)
flush_by-sound specs (Err broken) = unreadable-sound specs broken

commit_of-sound : (specs : List TableSpec) (table : TableName) (texts : List (List ℕ)) (names : List WriteName) (place : ℕ) (spec : TableSpec) → place < length specs
    → IsSound (length specs) true (commit_of table texts names place spec)
commit_of-sound specs table texts names place spec inside =
    if_sound _ _ (is_none_named names) _ _ (fixed_sound _ _ _ refl)
    (if_sound _ _ (has_other_table table names) _ _ (fixed_sound _ _ _ refl)
    (if_sound _ _ (repeats_unknown texts names) _ _ (fixed_sound _ _ _ refl)
    (at_sound _ _ place _ inside (λ history caller now. told_committed-ends texts _))))

commit_on-sound : (specs : List TableSpec) (texts : List (List ℕ)) (table : Option TableName) (names : Option (List WriteName)) → IsSound (length specs) true (commit_on specs texts table names)
commit_on-sound specs texts None names = fixed_sound _ _ _ refl
commit_on-sound specs texts (Some table) None = fixed_sound _ _ _ refl
commit_on-sound specs texts (Some table) (Some names) = on_table-sound specs true _ table _ refl (commit_of-sound specs table texts names)

commit_by-sound : (specs : List TableSpec) (read : Result BatchCommitWriteStreamsRequest MsgFault) → IsSound (length specs) true (commit_by specs read)
commit_by-sound specs (Ok request) = commit_on-sound specs request.write_streams (table_name_of request.parent) (all_of (map write_name_of request.write_streams))
commit_by-sound specs (Err broken) = unreadable-sound specs broken

session_over-sound : (specs : List TableSpec) (project : ProjectName) (session : ReadSession) (count : ℤ) (place : ℕ) (columns : List Column) (fields : List ℕ) (read : Result Pred FilterFault)
    → place < length specs → IsSound (length specs) true (session_over project session place columns count fields read)
session_over-sound specs project session count place columns fields (Ok pred) inside =
    at_sound _ _ place _ inside (λ history caller now. told_begun-ends project session place columns fields _)
session_over-sound specs project session count place columns fields (Err broken) inside = fixed_sound _ _ _ (no_restriction-ends broken)

session_with-sound : (specs : List TableSpec) (project : ProjectName) (session : ReadSession) (count : ℤ) (place : ℕ) (columns : List Column) (names : List (List ℕ)) (unknown : Option ℕ)
    → place < length specs → IsSound (length specs) true (session_with project session place columns count names unknown)
session_with-sound specs project session count place columns names None inside = session_over-sound specs project session count place columns _ _ inside
session_with-sound specs project session count place columns names (Some at) inside = fixed_sound _ _ _ refl

session_by-sound : (specs : List TableSpec) (project : ProjectName) (session : ReadSession) (count : ℤ) (place : ℕ) (columns : List Column) (check : Result (List (List ℕ)) Refusal)
    → place < length specs → IsSound (length specs) true (session_by project session place columns count check)
session_by-sound specs project session count place columns (Ok names) inside = session_with-sound specs project session count place columns names (unknown_name columns names) inside
session_by-sound specs project session count place columns (Err refusal) inside = fixed_sound _ _ _ refl

session_on-sound : (specs : List TableSpec) (session : ReadSession) (count : ℤ) (project : Option ProjectName) (table : Option TableName) → IsSound (length specs) true (session_on specs session count project table)
session_on-sound specs session count None table = fixed_sound _ _ _ refl
session_on-sound specs session count (Some project) None = fixed_sound _ _ _ refl
session_on-sound specs session count (Some project) (Some table) =
    on_table-sound specs true _ table _ refl (λ place spec inside. session_by-sound specs project session count place spec.schema (unless (session_rules session count) (options_in session).selected_fields) inside)

create_session_by-sound : (specs : List TableSpec) (read : Result CreateReadSessionRequest MsgFault) → IsSound (length specs) true (create_session_by specs read)
create_session_by-sound specs (Ok request) = session_on-sound specs (session_in request) request.max_stream_count (project_name_of request.parent) (table_name_of (session_in request).table)
create_session_by-sound specs (Err broken) = unreadable-sound specs broken

on_node-sound : (specs : List TableSpec) (over : Bool) (missing : Answer) (asks : ReadPlace → TableSpec → Plan Answer) → ends missing ≡ over
    → ((node : ReadPlace) (spec : TableSpec) → node.table < length specs → IsSound (length specs) over (asks node spec))
    → (node : Option ReadPlace) → IsSound (length specs) over (on_node specs missing node asks)
on_node-sound specs over missing asks e each None = fixed_sound (length specs) over missing e
on_node-sound specs over missing asks e each (Some node) = at_spec (slice_get specs node.table) refl
  where
    at_spec : (found : Option TableSpec) → slice_get specs node.table ≡ found → IsSound (length specs) over (on_spec missing node.table found (λ spec. asks node spec))
    at_spec None is = fixed_sound (length specs) over missing e
    at_spec (Some spec) is = each node spec (below specs node.table spec is)

split_on-sound : (specs : List TableSpec) (name : Option ReadName) → IsSound (length specs) true (split_on specs name)
split_on-sound specs None = fixed_sound _ _ _ refl
split_on-sound specs (Some name) =
    on_node-sound specs true _ _ refl (λ node spec inside. at_sound _ _ node.table _ inside (λ history caller now. told_split-ends name.project node _)) (place_of_read name)

split_by-sound : (specs : List TableSpec) (read : Result SplitReadStreamRequest MsgFault) → IsSound (length specs) true (split_by specs read)
split_by-sound specs (Ok request) = split_on-sound specs (read_name_of request.name)
split_by-sound specs (Err broken) = unreadable-sound specs broken

read_on-sound : (specs : List TableSpec) (request : ReadRowsRequest) (name : Option ReadName) → IsSound (length specs) true (read_on specs request name)
read_on-sound specs request None = fixed_sound _ _ _ refl
read_on-sound specs request (Some name) =
    on_node-sound specs true _ _ refl
    (λ node spec inside. at_sound _ _ node.table _ inside (λ history caller now. read_answer-ends spec.schema node.session node.node request.offset history now)) (place_of_read name)

read_by-sound : (specs : List TableSpec) (read : Result ReadRowsRequest MsgFault) → IsSound (length specs) true (read_by specs read)
read_by-sound specs (Ok request) = read_on-sound specs request (read_name_of request.read_stream)
read_by-sound specs (Err broken) = unreadable-sound specs broken

-- ---- all of them

call_plan-sound : (specs : List TableSpec) (m : Method) (message : List ℕ) → IsSound (length specs) true (call_plan specs m message)
unfolding create_plan get_plan finalise_plan flush_plan commit_plan create_session_plan read_plan split_plan
call_plan-sound specs method.CreateWriteStream message = create_by-sound specs (create_write_stream_request_of message)
call_plan-sound specs method.GetWriteStream message = get_by-sound specs (get_write_stream_request_of message)
call_plan-sound specs method.FinalizeWriteStream message = finalise_by-sound specs (finalize_write_stream_request_of message)
call_plan-sound specs method.FlushRows message = flush_by-sound specs (flush_rows_request_of message)
call_plan-sound specs method.BatchCommitWriteStreams message = commit_by-sound specs (batch_commit_write_streams_request_of message)
call_plan-sound specs method.AppendRows message = fixed_sound _ _ _ refl
call_plan-sound specs method.CreateReadSession message = create_session_by-sound specs (create_read_session_request_of message)
call_plan-sound specs method.ReadRows message = read_by-sound specs (read_rows_request_of message)
call_plan-sound specs method.SplitReadStream message = split_by-sound specs (split_read_stream_request_of message)

pub plan-sound : (specs : List TableSpec) (named : Named) (asked : Ask) → IsSound (length specs) (ends_call asked) (plan specs named asked)
unfolding plan append_plan
plan-sound specs named (ask.Append message) = append_by-sound specs named (append_rows_request_of message)
plan-sound specs named (ask.Call m message) = call_plan-sound specs m message
plan-sound specs named (ask.Ends end) = fixed_sound (length specs) true (end_answer end) (end_answer-ends end)
