-- The codes of the stream errors of a table's reply to a commit.
use Rattle.std.proofs.Common.{ℕ, ◌<◌, ◌^◌, ℤ, Bool, true, false, List, [], ◌∷◌, Option, Some, None, Result, Ok, Err, arith, IfSome}
use Rattle.std.specs.Prelude.{if◌then◌else◌}
use Rattle.std.specs.List.{AllByRecursion, filter_map, enumerate_from, cons_option}
use Rattle.std.proofs.lemmas.List.Elements.{All-from_recursion}
use Rattle.table_model.specs.declared.commands.Command.TheVariants as command
use Rattle.table_model.specs.declared.entries.Change.TheVariants as change
use Rattle.table_model.specs.declared.facts.Facts.{Facts}
use Rattle.table_model.specs.declared.reasons.Refusal.{Refusal}
use Rattle.table_model.specs.declared.replies.Answer.TheVariants.{Accept}
use Rattle.table_model.specs.declared.replies.Reply.TheVariants as reply
use Rattle.table_model.specs.declared.replies.StreamError.{StreamError}
use Rattle.table_model.specs.declared.streams.StreamRef.{StreamRef}
use Rattle.table_model.specs.declared.streams.StreamState.{StreamState}
use Rattle.table_model.specs.Answer.{or_refuse, entry_of, moment_at, entries_rules, commit_answer, answer_by, answer_of}
use Rattle.table_model.specs.Checks.{commit_check, commit_rules, error_at, stream_code, stream_errors}
use Rattle.table_model.specs.Facts.{facts_of}
use Rattle.table_model.specs.Look.{Look, look_of}
use Rattle.table_model.specs.History.{History}
use Rattle.table_model.specs.Reasons.{refusal_of}
use Rattle.table_model.specs.Rules.{Rule, unless}
use Rattle.table_model.specs.Table.{reply_of}
use Rattle.call_read.specs.Codes.{HasCodes, IsCode}

-- ---- of one stream

abbrev IsCodeOrNone : Option ℕ → Type 0
IsCodeOrNone code = IfSome code (λ n. n < 2 ^ 31)

by_tests : (a b c : Bool) → IsCodeOrNone (if a then Some 4 else (if b then Some 2 else (if c then Some 5 else None)))
by_tests true b c = omega arith
by_tests false true c = omega arith
by_tests false false true = omega arith
by_tests false false false = tt

stream_code-is : (state : Option StreamState) → IsCodeOrNone (stream_code state)
stream_code-is None = omega arith
stream_code-is (Some state) = by_tests _ _ _

-- ---- of each

errors_by : (f : ℕ × StreamRef → Option ℕ) → ((item : ℕ × StreamRef) → IsCodeOrNone (f item)) → (items : List (ℕ × StreamRef))
    → AllByRecursion IsCode (filter_map (λ item. error_at item.0 (f item)) items)
errors_by f each [] = tt
errors_by f each (item ∷ items) = with_first item.0 (f item) (each item) (filter_map (λ item. error_at item.0 (f item)) items) (errors_by f each items)
  where
    with_first : (place : ℕ) (code : Option ℕ) → IsCodeOrNone code → (errors : List StreamError) → AllByRecursion IsCode errors → AllByRecursion IsCode (cons_option (error_at place code) errors)
    with_first place None is errors all = all
    with_first place (Some code) is errors all = (is, all)

errors_are : (look : StreamRef → Option StreamState) (streams : List StreamRef) → AllByRecursion IsCode (stream_errors look streams)
errors_are look streams = errors_by (λ item. stream_code (look item.1)) (λ item. stream_code-is (look item.1)) (enumerate_from 0 streams)

-- ---- of the reply

abbrev AreChecked : Result (List StreamError) Refusal → Type 0
AreChecked (Ok errors) = AllByRecursion IsCode errors
AreChecked (Err refusal) = Unit {0}

unless_one : (holds : Bool) (refusal : Refusal) (behind : Result (List StreamError) Refusal) → AreChecked behind → AreChecked (if holds then Err refusal else behind)
unless_one true refusal behind all = tt
unless_one false refusal behind all = all

unless-are : (rules : List Rule) (errors : List StreamError) → AllByRecursion IsCode errors → AreChecked (unless rules errors)
unless-are [] errors all = all
unless-are (rule ∷ rules) errors all = unless_one rule.0 (refusal_of rule.1) (unless rules errors) (unless-are rules errors all)

commit_codes : (facts : Facts) (streams : List StreamRef) (check : Result (List StreamError) Refusal) (now : ℤ) → AreChecked check → HasCodes (reply_of (commit_answer facts streams check now))
commit_codes facts streams (Err refusal) now all = tt
commit_codes facts streams (Ok []) now all = accepted (unless (entries_rules facts) (moment_at facts now))
  where
    accepted : (moment : Result ℤ Refusal) → HasCodes (reply_of (or_refuse moment (λ moment. Accept (entry_of facts moment (change.Commit streams)) (reply.Committed moment))))
    accepted (Ok moment) = tt
    accepted (Err refusal) = tt
commit_codes facts streams (Ok (error ∷ errors)) now all = All-from_recursion IsCode (error ∷ errors) all

by_codes : (facts : Facts) (look : Look) (streams : List StreamRef) (now : ℤ) → HasCodes (reply_of (answer_by facts look (command.Commit streams) now))
unfolding answer_by
by_codes facts look streams now = commit_codes facts streams (commit_check look.stream streams) now (unless-are (commit_rules streams) (stream_errors look.stream streams) (errors_are look.stream streams))

pub replies_have_codes : (columns : ℕ) (history : History) (caller : ℕ) (streams : List StreamRef) (now : ℤ) → HasCodes (reply_of (answer_of columns history caller (command.Commit streams) now))
replies_have_codes columns history caller streams now = by_codes (facts_of columns history caller) (look_of history) streams now
