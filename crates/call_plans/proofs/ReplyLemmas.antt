-- A table's reply to a command is a refusal, or one of the command's kind.
use Rattle.std.proofs.Common.{◌≡◌, ℕ, ◌+◌, ◌-◌, ℤ, Bool, true, false, List, [], ◌∷◌, length, Option, Result, Ok, Err, refl, if◌then◌else◌}
use Rattle.std.specs.Prelude.{nat_le, nat_abs, unwrap_or}
use Rattle.column_types.specs.declared.predicate.Pred.{Pred}
use Rattle.column_types.specs.declared.row.Row.{Row}
use Rattle.split_tree.specs.declared.node.Cut.{Cut}
use Rattle.split_tree.specs.declared.node.Cut.TheVariants as cut
use Rattle.split_tree.specs.Intervals.{roots_of}
use Rattle.split_tree.specs.Nodes.{cut_by}
use Rattle.table_model.specs.declared.checks.FlushMove.{FlushMove}
use Rattle.table_model.specs.declared.checks.FinalMove.{FinalMove}
use Rattle.table_model.specs.declared.commands.Command.{Command}
use Rattle.table_model.specs.declared.commands.Command.TheVariants as command
use Rattle.table_model.specs.declared.entries.Change.TheVariants as change
use Rattle.table_model.specs.declared.facts.Facts.{Facts}
use Rattle.table_model.specs.declared.reasons.Refusal.{Refusal}
use Rattle.table_model.specs.declared.replies.Answer.{Answer}
use Rattle.table_model.specs.declared.replies.Answer.TheVariants.{Accept, Same}
use Rattle.table_model.specs.declared.replies.Reply.{Reply}
use Rattle.table_model.specs.declared.replies.Reply.TheVariants as reply
use Rattle.table_model.specs.declared.replies.StreamError.{StreamError}
use Rattle.table_model.specs.declared.sessions.ReadNode.{ReadNode}
use Rattle.table_model.specs.declared.streams.StreamKind.{StreamKind}
use Rattle.table_model.specs.declared.streams.StreamRef.{StreamRef}
use Rattle.table_model.specs.declared.streams.StreamState.{StreamState}
use Rattle.table_model.specs.Answer.{or_refuse, entry_of, moment_at, entries_rules, create_rules, room_rules, create_answer, offset_told, append_answer, flush_answer, finalise_answer, commit_answer, get_answer, session_rules, begin_answer, session_answer, cut_answer, split_answer, answer_by}
use Rattle.table_model.specs.Checks.{append_check, flush_check, finalise_check, commit_check, get_check, read_check}
use Rattle.table_model.specs.Facts.{facts_of}
use Rattle.table_model.specs.Look.{Look, look_of}
use Rattle.table_model.specs.Rules.{unless}
use Rattle.table_model.specs.Table.{reply_of}
use Rattle.call_plans.specs.Replies.{is_creation, is_append, is_flush, is_end, is_commit, is_stream, is_begin, is_split, is_reply, RepliesInKind}

-- this holds of a refusal, and of each answer behind it
refused_or : {A : Type 0} (is : Reply → Bool) (check : Result A Refusal) (next : A → Answer) → ((refusal : Refusal) → is (reply.Refused refusal) ≡ true)
    → ((a : A) → is (reply_of (next a)) ≡ true) → is (reply_of (or_refuse check next)) ≡ true
refused_or is (Ok a) next refused each = each a
refused_or is (Err refusal) next refused each = refused refusal

same_or : (is : Reply → Bool) (test : Bool) (told : Reply) (behind : Answer) → is told ≡ true → is (reply_of behind) ≡ true → is (reply_of (if test then Same told else behind)) ≡ true
same_or is true told behind a b = a
same_or is false told behind a b = b

create_in_kind : (facts : Facts) (kind : StreamKind) (now : ℤ) → is_creation (reply_of (create_answer facts kind now)) ≡ true
create_in_kind facts kind now =
    let next : ℕ → Answer = λ number. Accept (entry_of facts (moment_at facts now) (change.Create number kind)) (reply.Created number (moment_at facts now)) in
    refused_or is_creation (unless (create_rules facts) (facts.streams + 1)) next (λ refusal. refl) (λ number. refl)

append_in_kind : (facts : Facts) (on : StreamRef) (check : Result ℕ Refusal) (rows : List Row) (bytes : ℕ) (now : ℤ) → is_append (reply_of (append_answer facts on check rows bytes now)) ≡ true
append_in_kind facts on (Err refusal) rows bytes now = refl
append_in_kind facts on (Ok end) rows bytes now =
    let next : ℕ → Answer = λ at. Accept (entry_of facts (moment_at facts now) (change.Append on at rows bytes)) (reply.Appended (offset_told on at)) in
    refused_or is_append (unless (room_rules facts (length rows) bytes) end) next (λ refusal. refl) (λ at. refl)

flush_in_kind : (facts : Facts) (on : StreamRef) (check : Result FlushMove Refusal) (now : ℤ) → is_flush (reply_of (flush_answer facts on check now)) ≡ true
flush_in_kind facts on (Err refusal) now = refl
flush_in_kind facts on (Ok move) now =
    let next : ℕ → Answer = λ upto. Accept (entry_of facts (moment_at facts now) (change.Flush on upto)) (reply.Flushed (upto - 1)) in
    same_or is_flush (nat_le move.upto move.from) (reply.Flushed (move.from - 1)) (or_refuse (unless (entries_rules facts) move.upto) next) refl
    (refused_or is_flush (unless (entries_rules facts) move.upto) next (λ refusal. refl) (λ upto. refl))

finalise_in_kind : (facts : Facts) (on : StreamRef) (check : Result FinalMove Refusal) (now : ℤ) → is_end (reply_of (finalise_answer facts on check now)) ≡ true
finalise_in_kind facts on (Err refusal) now = refl
finalise_in_kind facts on (Ok move) now =
    let next : ℕ → Answer = λ rows. Accept (entry_of facts (moment_at facts now) (change.Finalise on)) (reply.Finalised rows) in
    same_or is_end move.already (reply.Finalised move.rows) (or_refuse (unless (entries_rules facts) move.rows) next) refl
    (refused_or is_end (unless (entries_rules facts) move.rows) next (λ refusal. refl) (λ rows. refl))

commit_in_kind : (facts : Facts) (streams : List StreamRef) (check : Result (List StreamError) Refusal) (now : ℤ) → is_commit (reply_of (commit_answer facts streams check now)) ≡ true
commit_in_kind facts streams (Err refusal) now = refl
commit_in_kind facts streams (Ok []) now =
    let next : ℤ → Answer = λ moment. Accept (entry_of facts moment (change.Commit streams)) (reply.Committed moment) in
    refused_or is_commit (unless (entries_rules facts) (moment_at facts now)) next (λ refusal. refl) (λ moment. refl)
commit_in_kind facts streams (Ok (error ∷ errors)) now = refl

get_in_kind : (check : Result StreamState Refusal) → is_stream (reply_of (get_answer check)) ≡ true
get_in_kind (Err refusal) = refl
get_in_kind (Ok state) = refl

begin_in_kind : (facts : Facts) (visible_by : ℤ → ℕ) (pred : Pred) (fields : List ℕ) (count : ℤ) (snapshot : Option ℤ) (now : ℤ) → is_begin (reply_of (session_answer facts visible_by pred fields count snapshot now)) ≡ true
begin_in_kind facts visible_by pred fields count snapshot now =
    let at : ℤ → ℕ = λ moment. visible_by (unwrap_or snapshot moment) in
    let next : ℤ → Answer = λ moment. begin_answer facts pred fields (at moment) (roots_of (at moment) (nat_abs count)) moment in
    refused_or is_begin (unless (session_rules facts count) (moment_at facts now)) next (λ refusal. refl) (λ moment. refl)

cut_in_kind : (facts : Facts) (session node : ℕ) (made : Cut) (now : ℤ) → is_split (reply_of (cut_answer facts session node made now)) ≡ true
cut_in_kind facts session node cut.Small now = refl
cut_in_kind facts session node (cut.Already left right) now = refl
cut_in_kind facts session node (cut.Full nodes) now = refl
cut_in_kind facts session node (cut.Made left right) now =
    let next : ℤ → Answer = λ moment. Accept (entry_of facts moment (change.Split session node left right)) (reply.Children left right) in
    refused_or is_split (unless (entries_rules facts) (moment_at facts now)) next (λ refusal. refl) (λ moment. refl)

split_in_kind : (facts : Facts) (session node : ℕ) (check : Result ReadNode Refusal) (now : ℤ) → is_split (reply_of (split_answer facts session node check now)) ≡ true
split_in_kind facts session node (Err refusal) now = refl
split_in_kind facts session node (Ok state) now = cut_in_kind facts session node (cut_by state.node state.nodes) now

by_in_kind : (facts : Facts) (look : Look) (asked : Command) (now : ℤ) → is_reply asked (reply_of (answer_by facts look asked now)) ≡ true
unfolding answer_by
by_in_kind facts look (command.Create kind) now = create_in_kind facts kind now
by_in_kind facts look (command.Append on offset rows bytes) now = append_in_kind facts on (append_check on (look.stream on) offset (length rows)) rows bytes now
by_in_kind facts look (command.Flush on offset) now = flush_in_kind facts on (flush_check (look.stream on) offset) now
by_in_kind facts look (command.Finalise on) now = finalise_in_kind facts on (finalise_check on (look.stream on)) now
by_in_kind facts look (command.Commit streams) now = commit_in_kind facts streams (commit_check look.stream streams) now
by_in_kind facts look (command.Get on) now = get_in_kind (get_check (look.stream on))
by_in_kind facts look (command.Session pred fields count snapshot) now = begin_in_kind facts look.visible_by pred fields count snapshot now
by_in_kind facts look (command.Split session node) now = split_in_kind facts session node (read_check (look.node session node) (moment_at facts now)) now

pub replies_in_kind : RepliesInKind
replies_in_kind columns history caller asked now = by_in_kind (facts_of columns history caller) (look_of history) asked now
