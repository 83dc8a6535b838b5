-- What a command is answered at a history: one entry with its reply, the reply alone, or a refusal.
use Rattle.std.specs.Prelude.{ℕ, ◌+◌, ◌-◌, ℤ, pos, nat_lt, nat_le, nat_abs, int_lt, Option, None, Some, unwrap_or, List, [], ◌∷◌, length, Result, Ok, Err, if◌then◌else◌}
use Rattle.std.specs.Int.{int_max}
use Rattle.table_model.specs.declared.limits.TheConstants.{MAX_ENTRIES, MAX_STREAMS, MAX_SESSIONS, MAX_WEIGHT}
use Rattle.column_types.specs.declared.predicate.Pred.{Pred}
use Rattle.column_types.specs.declared.row.Row.{Row}
use Rattle.split_tree.specs.declared.node.Cut.{Cut}
use Rattle.split_tree.specs.declared.node.Cut.TheVariants as cut
use Rattle.split_tree.specs.Intervals.{roots_of}
use Rattle.split_tree.specs.Nodes.{cut_by}
use Rattle.table_model.specs.declared.commands.Command.{Command}
use Rattle.table_model.specs.declared.commands.Command.TheVariants as command
use Rattle.table_model.specs.declared.entries.Entry.{Entry}
use Rattle.table_model.specs.declared.entries.Change.{Change}
use Rattle.table_model.specs.declared.entries.Change.TheVariants as change
use Rattle.table_model.specs.declared.facts.Facts.{Facts}
use Rattle.table_model.specs.declared.replies.Answer.{Answer}
use Rattle.table_model.specs.declared.replies.Answer.TheVariants.{Accept, Same, Refuse}
use Rattle.table_model.specs.declared.replies.Reply.TheVariants as reply
use Rattle.table_model.specs.declared.replies.StreamError.{StreamError}
use Rattle.table_model.specs.declared.reasons.Refusal.{Refusal}
use Rattle.table_model.specs.declared.reasons.Why.TheVariants as why
use Rattle.table_model.specs.declared.checks.FlushMove.{FlushMove}
use Rattle.table_model.specs.declared.checks.FinalMove.{FinalMove}
use Rattle.table_model.specs.declared.streams.StreamKind.{StreamKind}
use Rattle.table_model.specs.declared.streams.StreamRef.{StreamRef}
use Rattle.table_model.specs.declared.streams.StreamState.{StreamState}
use Rattle.table_model.specs.declared.sessions.ReadNode.{ReadNode}
use Rattle.table_model.specs.Reasons.{refusal_of}
use Rattle.table_model.specs.Rules.{Rule, unless}
use Rattle.table_model.specs.Streams.{is_default}
use Rattle.table_model.specs.History.{History}
use Rattle.table_model.specs.Facts.{size_of_rows, facts_of}
use Rattle.table_model.specs.Sessions.{expiry_of}
use Rattle.table_model.specs.Look.{Look, look_of}
use Rattle.table_model.specs.Checks.{append_check, flush_check, finalise_check, commit_check, get_check, read_check}

-- a refusal is the answer; else what follows decides
abbrev pub or_refuse : {A : Type 0} → Result A Refusal → (A → Answer) → Answer
or_refuse (Ok a) next = next a
or_refuse (Err refusal) next = Refuse refusal

-- A new entry carries its caller and the count of that caller's earlier entries.
abbrev pub entry_of : Facts → ℤ → Change → Entry
entry_of facts moment what = record { caller = facts.caller; number = facts.mine; moment = moment; change = what }

-- the moment of an entry: the reading of the clock, and never less than the moment of the history
abbrev pub moment_at : Facts → ℤ → ℤ
moment_at facts now = int_max facts.latest now

abbrev pub entries_rules : Facts → List Rule
entries_rules facts = (nat_le MAX_ENTRIES facts.entries, why.FullEntries) ∷ []

abbrev pub create_rules : Facts → List Rule
create_rules facts = (nat_le MAX_STREAMS facts.streams, why.FullStreams) ∷ entries_rules facts

abbrev pub room_rules : Facts → ℕ → ℕ → List Rule
room_rules facts count bytes =
    (nat_lt MAX_WEIGHT (facts.weight + size_of_rows facts.columns count bytes), why.FullRows) ∷ entries_rules facts

-- a stream is created with the next number
abbrev pub create_answer : Facts → StreamKind → ℤ → Answer
create_answer facts kind now =
    or_refuse (unless (create_rules facts) (facts.streams + 1)) (λ number.
    Accept (entry_of facts (moment_at facts now) (change.Create number kind)) (reply.Created number (moment_at facts now)))

-- no offset is told of the default stream
abbrev pub offset_told : StreamRef → ℕ → Option ℕ
offset_told on offset = if is_default on then None else Some offset

-- rows are appended at the end of their stream
abbrev pub append_answer : Facts → StreamRef → Result ℕ Refusal → List Row → ℕ → ℤ → Answer
append_answer facts on check rows bytes now =
    or_refuse check (λ end.
    or_refuse (unless (room_rules facts (length rows) bytes) end) (λ at.
    Accept (entry_of facts (moment_at facts now) (change.Append on at rows bytes)) (reply.Appended (offset_told on at))))

-- a stream is flushed; where the rows were flushed before, the reply is that of the flushed count
abbrev pub flush_answer : Facts → StreamRef → Result FlushMove Refusal → ℤ → Answer
flush_answer facts on check now =
    or_refuse check (λ move.
    if nat_le move.upto move.from then Same (reply.Flushed (move.from - 1))
    else or_refuse (unless (entries_rules facts) move.upto) (λ upto.
    Accept (entry_of facts (moment_at facts now) (change.Flush on upto)) (reply.Flushed (upto - 1))))

-- a stream is finalised; where it was, the reply is the same
abbrev pub finalise_answer : Facts → StreamRef → Result FinalMove Refusal → ℤ → Answer
finalise_answer facts on check now =
    or_refuse check (λ move.
    if move.already then Same (reply.Finalised move.rows)
    else or_refuse (unless (entries_rules facts) move.rows) (λ rows.
    Accept (entry_of facts (moment_at facts now) (change.Finalise on)) (reply.Finalised rows)))

-- the streams are committed, or, where one can't be, none is
abbrev pub commit_or_not : Facts → List StreamRef → List StreamError → ℤ → Answer
commit_or_not facts streams [] now =
    or_refuse (unless (entries_rules facts) (moment_at facts now)) (λ moment.
    Accept (entry_of facts moment (change.Commit streams)) (reply.Committed moment))
commit_or_not facts streams (error ∷ more) now = Same (reply.NotCommitted (error ∷ more))

abbrev pub commit_answer : Facts → List StreamRef → Result (List StreamError) Refusal → ℤ → Answer
commit_answer facts streams check now = or_refuse check (λ errors. commit_or_not facts streams errors now)

abbrev pub get_answer : Result StreamState Refusal → Answer
get_answer check = or_refuse check (λ state. Same (reply.Stream state.kind state.created state.committed))

abbrev pub session_rules : Facts → (count : ℤ) → List Rule
session_rules facts count =
    (int_lt count (pos 0), why.NegativeCount) ∷ (nat_le MAX_SESSIONS facts.sessions, why.FullSessions) ∷ entries_rules facts

-- a session over the first `at` visible rows is begun with the next number, and can be read until it expires
abbrev pub begin_answer : Facts → Pred → List ℕ → (at roots : ℕ) → (moment : ℤ) → Answer
begin_answer facts pred fields at roots moment =
    Accept (entry_of facts moment (change.Session (facts.sessions + 1) at pred fields roots)) (reply.Session (facts.sessions + 1) roots (expiry_of moment))

-- the rows of a session are those that are visible now, or that were visible at the moment of the snapshot
abbrev pub session_answer : Facts → (visible_by : ℤ → ℕ) → Pred → List ℕ → (count : ℤ) → (snapshot : Option ℤ) → ℤ → Answer
session_answer facts visible_by pred fields count snapshot now =
    or_refuse (unless (session_rules facts count) (moment_at facts now)) (λ moment.
    begin_answer facts pred fields (visible_by (unwrap_or snapshot moment)) (roots_of (visible_by (unwrap_or snapshot moment)) (nat_abs count)) moment)

-- a node is split into the next two; one that was split before has its children, and one with too few rows has none
abbrev pub cut_answer : Facts → (session node : ℕ) → Cut → ℤ → Answer
cut_answer facts session node cut.Small now = Same reply.NoSplit
cut_answer facts session node (cut.Already left right) now = Same (reply.Children left right)
cut_answer facts session node (cut.Full nodes) now = Refuse (refusal_of why.FullNodes)
cut_answer facts session node (cut.Made left right) now =
    or_refuse (unless (entries_rules facts) (moment_at facts now)) (λ moment.
    Accept (entry_of facts moment (change.Split session node left right)) (reply.Children left right))

abbrev pub split_answer : Facts → (session node : ℕ) → Result ReadNode Refusal → ℤ → Answer
split_answer facts session node check now =
    or_refuse check (λ state. cut_answer facts session node (cut_by state.node state.nodes) now)

-- the answer, by the facts of the history and what is looked up of it
unfoldable pub answer_by : Facts → Look → Command → ℤ → Answer
answer_by facts look (command.Create kind) now = create_answer facts kind now
answer_by facts look (command.Append on offset rows bytes) now =
    append_answer facts on (append_check on (look.stream on) offset (length rows)) rows bytes now
answer_by facts look (command.Flush on offset) now = flush_answer facts on (flush_check (look.stream on) offset) now
answer_by facts look (command.Finalise on) now = finalise_answer facts on (finalise_check on (look.stream on)) now
answer_by facts look (command.Commit streams) now = commit_answer facts streams (commit_check look.stream streams) now
answer_by facts look (command.Get on) now = get_answer (get_check (look.stream on))
answer_by facts look (command.Session pred fields count snapshot) now = session_answer facts look.visible_by pred fields count snapshot now
answer_by facts look (command.Split session node) now =
    split_answer facts session node (read_check (look.node session node) (moment_at facts now)) now

-- the answer to a command of a caller, at a history of a table with this many columns and a reading of the clock
abbrev pub answer_of : ℕ → History → ℕ → Command → ℤ → Answer
answer_of columns history caller c now = answer_by (facts_of columns history caller) (look_of history) c now
