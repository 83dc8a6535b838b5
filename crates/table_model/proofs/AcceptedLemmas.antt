-- An answer that accepts, read backwards: no refusal held.
use Rattle.std.proofs.Common.{◌≡◌, ℕ, ◌+◌, ◌-◌, ◌<◌, ◌≤◌, ℤ, pos, negsuc, ◌≤ℤ◌, Bool, true, false, max, List, [], ◌∷◌, length, None, Some, Ok, Err, refl, sym, ap, ◌∙◌, subst, arith}
use Rattle.std.specs.Prelude.{Option, Result, nat_le, nat_abs, int_lt, int_le, unwrap_or, if◌then◌else◌}
use Rattle.std.specs.Int.{int_max}
use Rattle.std.proofs.lemmas.Bool.{ltb-false, leb-false, not-false}
use Rattle.std.proofs.lemmas.Int.{ints, clamps}
use Rattle.table_model.specs.declared.limits.TheConstants.{MAX_ENTRIES, MAX_STREAMS, MAX_SESSIONS, MAX_WEIGHT}
use Rattle.column_types.specs.declared.column.Column.{Column}
use Rattle.column_types.specs.declared.predicate.Pred.{Pred}
use Rattle.column_types.specs.declared.row.Row.{Row}
use Rattle.split_tree.specs.declared.node.Cut.{Cut}
use Rattle.split_tree.specs.declared.node.Cut.TheVariants as cut
use Rattle.split_tree.specs.Intervals.{roots_of}
use Rattle.split_tree.specs.Nodes.{cut_by}
use Rattle.table_model.specs.declared.checks.FlushMove.{FlushMove}
use Rattle.table_model.specs.declared.checks.FinalMove.{FinalMove}
use Rattle.table_model.specs.declared.commands.Command.{Command}
use Rattle.table_model.specs.declared.commands.Command.TheVariants as command
use Rattle.table_model.specs.declared.entries.Entry.{Entry}
use Rattle.table_model.specs.declared.entries.Change.{Change}
use Rattle.table_model.specs.declared.entries.Change.TheVariants as change
use Rattle.table_model.specs.declared.facts.Facts.{Facts}
use Rattle.table_model.specs.declared.replies.Answer.{Answer}
use Rattle.table_model.specs.declared.replies.Answer.TheVariants.{Accept, Same}
use Rattle.table_model.specs.declared.replies.Reply.{Reply}
use Rattle.table_model.specs.declared.replies.Reply.TheVariants as reply
use Rattle.table_model.specs.declared.replies.StreamError.{StreamError}
use Rattle.table_model.specs.declared.reasons.Refusal.{Refusal}
use Rattle.table_model.specs.declared.reasons.Why.{Why}
use Rattle.table_model.specs.declared.streams.StreamKind.{StreamKind}
use Rattle.table_model.specs.declared.streams.StreamRef.{StreamRef}
use Rattle.table_model.specs.declared.streams.StreamState.{StreamState}
use Rattle.table_model.specs.declared.sessions.ReadNode.{ReadNode}
use Rattle.table_model.specs.Reasons.{refusal_of}
use Rattle.table_model.specs.Rules.{Rule, unless}
use Rattle.table_model.specs.Streams.{is_default, is_buffered}
use Rattle.table_model.specs.Facts.{size_of_rows}
use Rattle.table_model.specs.Checks.{append_check, append_rules, flush_check, flush_rules, count_upto, finalise_check, finalise_rules, commit_check, commit_rules, names_twice, stream_errors, get_check, read_check, read_rules}
use Rattle.table_model.specs.Answer.{answer_by, or_refuse, entry_of, moment_at, entries_rules, create_rules, room_rules, create_answer, append_answer, flush_answer, finalise_answer, commit_answer, commit_or_not, get_answer, offset_told, session_rules, begin_answer, session_answer, cut_answer, split_answer}
use Rattle.table_model.specs.Look.{Look}
use Rattle.table_model.specs.Fits.{ChangeFits}
use Rattle.table_model.specs.Legal.{FitsTable}
use Rattle.table_model.specs.Accepted.{IsMade, Makes}

-- none of the rules holds
abbrev pub NoneHolds : List Rule → Type 0
NoneHolds [] = Unit {0}
NoneHolds (rule ∷ rules) = (rule.0 ≡ false) × NoneHolds rules

none_first : {A : Type 0} (holds : Bool) (why : Why) (rest : Result A Refusal) (b : A)
    → (if holds then Err (refusal_of why) else rest) ≡ Ok b → (holds ≡ false) × (rest ≡ Ok b)
none_first true why rest b e = absurd (cc)
none_first false why rest b e = (refl, e)

unless-Ok : {A : Type 0} (rules : List Rule) (a b : A) → unless rules a ≡ Ok b → NoneHolds rules × (a ≡ b)
unless-Ok [] a b e = (tt, cc)
unless-Ok (rule ∷ rules) a b e =
    let here = none_first rule.0 rule.1 (unless rules a) b e in
    let later = unless-Ok rules a b here.1 in
    ((here.0, later.0), later.1)

-- what is accepted was refused by nothing
or_refuse-Accept : {A : Type 0} (check : Result A Refusal) (next : A → Answer) (entry : Entry) (told : Reply)
    → or_refuse check next ≡ Accept entry told → (a : A) × (check ≡ Ok a) × (next a ≡ Accept entry told)
or_refuse-Accept (Ok a) next entry told e = (a, refl, e)
or_refuse-Accept (Err refusal) next entry told e = absurd (cc)

few : (facts : Facts) → NoneHolds (entries_rules facts) → facts.entries < MAX_ENTRIES
few facts none = leb-false MAX_ENTRIES facts.entries none.0

-- What is so of an entry that the answer to a command accepts.
pub record Follows (facts : Facts) (look : Look) (c : Command) (now : ℤ) (entry : Entry) : Type 0 where
  pub made : IsMade facts look entry
  pub moment : entry.moment ≡ moment_at facts now
  pub fits : (columns : List Column) → FitsTable columns c → ChangeFits columns entry.change

follows : (facts : Facts) (look : Look) (c : Command) (now moment : ℤ) (what : Change) (entry : Entry) → facts.entries < MAX_ENTRIES → moment ≡ moment_at facts now
    → Makes facts look what → ((columns : List Column) → FitsTable columns c → ChangeFits columns what) → entry_of facts moment what ≡ entry
    → Follows facts look c now entry
follows facts look c now moment what entry room is makes fits same =
    subst (Follows facts look c now) same (record {
      made = record {
        caller = refl;
        number = refl;
        few = room;
        rises = rw is (not_before facts.latest now);
        makes = makes;
      };
      moment = is;
      fits = fits;
    })
  where
    not_before : (latest now : ℤ) → latest ≤ℤ int_max latest now
    not_before latest now = omega (arith, ints, clamps)

-- a creation
create_answer-Accept : (facts : Facts) (look : Look) (kind : StreamKind) (now : ℤ) (entry : Entry) (told : Reply)
    → create_answer facts kind now ≡ Accept entry told → Follows facts look (command.Create kind) now entry
create_answer-Accept facts look kind now entry told e =
    let step = or_refuse-Accept (unless (create_rules facts) (facts.streams + 1)) (λ number. Accept (entry_of facts (moment_at facts now) (change.Create number kind)) (reply.Created number (moment_at facts now))) entry told e in
    let none = unless-Ok (create_rules facts) (facts.streams + 1) step.0 step.1 in
    let made : entry_of facts (moment_at facts now) (change.Create step.0 kind) ≡ entry = cc in
    follows facts look (command.Create kind) now (moment_at facts now) (change.Create step.0 kind) entry (few facts none.0.1) refl
    (record { next = sym none.1; room = leb-false MAX_STREAMS facts.streams none.0.0 }) (λ columns fits. tt) made

append_check-Ok : (on : StreamRef) (found : Option StreamState) (offset : Option ℤ) (count at : ℕ) → append_check on found offset count ≡ Ok at
    → (state : StreamState) × (found ≡ Some state) × (at ≡ state.rows) × (state.finalised ≡ false)
append_check-Ok on None offset count at e = absurd (cc)
append_check-Ok on (Some state) offset count at e =
    let none = unless-Ok (append_rules on state offset count) state.rows at e in
    (state, refl, sym none.1, none.0.1.1.1.1.1.0)

-- an append
append_answer-Accept : (facts : Facts) (look : Look) (on : StreamRef) (offset : Option ℤ) (rows : List Row) (bytes : ℕ) (now : ℤ) (entry : Entry) (told : Reply)
    → append_answer facts on (append_check on (look.stream on) offset (length rows)) rows bytes now ≡ Accept entry told → Follows facts look (command.Append on offset rows bytes) now entry
append_answer-Accept facts look on offset rows bytes now entry told e =
    let accepts : ℕ → Answer = λ at. Accept (entry_of facts (moment_at facts now) (change.Append on at rows bytes)) (reply.Appended (offset_told on at)) in
    let placed = or_refuse-Accept (append_check on (look.stream on) offset (length rows)) (λ end. or_refuse (unless (room_rules facts (length rows) bytes) end) accepts) entry told e in
    let roomy = or_refuse-Accept (unless (room_rules facts (length rows) bytes) placed.0) accepts entry told placed.2 in
    let none = unless-Ok (room_rules facts (length rows) bytes) placed.0 roomy.0 roomy.1 in
    let stands = append_check-Ok on (look.stream on) offset (length rows) placed.0 placed.1 in
    let made : entry_of facts (moment_at facts now) (change.Append on roomy.0 rows bytes) ≡ entry = cc in
    follows facts look (command.Append on offset rows bytes) now (moment_at facts now) (change.Append on roomy.0 rows bytes) entry (few facts none.0.1) refl
    (record {
      state = stands.0;
      there = stands.1;
      at_end = sym none.1 ∙ stands.2;
      unfinished = stands.3;
      light = ltb-false MAX_WEIGHT (facts.weight + size_of_rows facts.columns (length rows) bytes) none.0.0;
    }) (λ columns fits. fits) made

not_same : (holds : Bool) (same : Reply) (rest : Answer) (entry : Entry) (told : Reply)
    → (if holds then Same same else rest) ≡ Accept entry told → (holds ≡ false) × (rest ≡ Accept entry told)
not_same true same rest entry told e = absurd (cc)
not_same false same rest entry told e = (refl, e)

count_upto-le : (rows : ℕ) (offset : ℤ) → int_lt offset (pos 0) ≡ false → int_le (pos rows) offset ≡ false → nat_abs offset + 1 ≤ rows
count_upto-le rows (pos n) low high = let h = leb-false rows n high in omega arith
count_upto-le rows (negsuc n) low high = absurd (cc)

flush_check-Ok : (found : Option StreamState) (offset : Option ℤ) (move : FlushMove) → flush_check found offset ≡ Ok move
    → (state : StreamState) × (found ≡ Some state) × (is_buffered state.kind ≡ true) × (move.from ≡ state.flushed) × (move.upto ≡ max state.flushed (count_upto offset)) × (count_upto offset ≤ state.rows)
flush_check-Ok None offset move e = absurd (cc)
flush_check-Ok (Some state) None move e =
    let none = unless-Ok (flush_rules state None) (record { from = state.flushed; upto = max state.flushed (count_upto None) }) move e in
    absurd (cc (none.0.1.0))
flush_check-Ok (Some state) (Some offset) move e =
    let none = unless-Ok (flush_rules state (Some offset)) (record { from = state.flushed; upto = max state.flushed (count_upto (Some offset)) }) move e in
    (state, refl, not-false (is_buffered state.kind) none.0.0, ap (λ m. m.from) (sym none.1), ap (λ m. m.upto) (sym none.1), count_upto-le state.rows offset none.0.1.1.0 none.0.1.1.1.0)

-- a flush
flush_answer-Accept : (facts : Facts) (look : Look) (on : StreamRef) (offset : Option ℤ) (now : ℤ) (entry : Entry) (told : Reply)
    → flush_answer facts on (flush_check (look.stream on) offset) now ≡ Accept entry told → Follows facts look (command.Flush on offset) now entry
flush_answer-Accept facts look on offset now entry told e =
    let accepts : ℕ → Answer = λ upto. Accept (entry_of facts (moment_at facts now) (change.Flush on upto)) (reply.Flushed (upto - 1)) in
    let moved = or_refuse-Accept (flush_check (look.stream on) offset) (λ move. if nat_le move.upto move.from then Same (reply.Flushed (move.from - 1)) else or_refuse (unless (entries_rules facts) move.upto) accepts) entry told e in
    let rises = not_same (nat_le moved.0.upto moved.0.from) (reply.Flushed (moved.0.from - 1)) (or_refuse (unless (entries_rules facts) moved.0.upto) accepts) entry told moved.2 in
    let roomy = or_refuse-Accept (unless (entries_rules facts) moved.0.upto) accepts entry told rises.1 in
    let none = unless-Ok (entries_rules facts) moved.0.upto roomy.0 roomy.1 in
    let found = flush_check-Ok (look.stream on) offset moved.0 moved.1 in
    let above : moved.0.from < moved.0.upto = leb-false moved.0.upto moved.0.from rises.0 in
    let made : entry_of facts (moment_at facts now) (change.Flush on roomy.0) ≡ entry = cc in
    let from : moved.0.from ≡ found.0.flushed = found.3 in
    let upto : moved.0.upto ≡ max found.0.flushed (count_upto offset) = found.4 in
    let most : count_upto offset ≤ found.0.rows = found.5 in
    let same : moved.0.upto ≡ roomy.0 = none.1 in
    follows facts look (command.Flush on offset) now (moment_at facts now) (change.Flush on roomy.0) entry (few facts none.0) refl
    (record {
      state = found.0;
      there = found.1;
      buffered = found.2;
      rising = omega arith;
      within = omega arith;
    }) (λ columns fits. tt) made

finalise_check-Ok : (on : StreamRef) (found : Option StreamState) (move : FinalMove) → finalise_check on found ≡ Ok move
    → (state : StreamState) × (found ≡ Some state) × (is_default on ≡ false) × (move.already ≡ state.finalised)
finalise_check-Ok on None move e = absurd (cc)
finalise_check-Ok on (Some state) move e =
    let none = unless-Ok (finalise_rules on) (record { rows = state.rows; already = state.finalised }) move e in
    (state, refl, none.0.0, ap (λ m. m.already) (sym none.1))

-- a finalisation
finalise_answer-Accept : (facts : Facts) (look : Look) (on : StreamRef) (now : ℤ) (entry : Entry) (told : Reply)
    → finalise_answer facts on (finalise_check on (look.stream on)) now ≡ Accept entry told → Follows facts look (command.Finalise on) now entry
finalise_answer-Accept facts look on now entry told e =
    let accepts : ℕ → Answer = λ rows. Accept (entry_of facts (moment_at facts now) (change.Finalise on)) (reply.Finalised rows) in
    let moved = or_refuse-Accept (finalise_check on (look.stream on)) (λ move. if move.already then Same (reply.Finalised move.rows) else or_refuse (unless (entries_rules facts) move.rows) accepts) entry told e in
    let new = not_same moved.0.already (reply.Finalised moved.0.rows) (or_refuse (unless (entries_rules facts) moved.0.rows) accepts) entry told moved.2 in
    let roomy = or_refuse-Accept (unless (entries_rules facts) moved.0.rows) accepts entry told new.1 in
    let none = unless-Ok (entries_rules facts) moved.0.rows roomy.0 roomy.1 in
    let found = finalise_check-Ok on (look.stream on) moved.0 moved.1 in
    let made : entry_of facts (moment_at facts now) (change.Finalise on) ≡ entry = cc in
    follows facts look (command.Finalise on) now (moment_at facts now) (change.Finalise on) entry (few facts none.0) refl
    (record { state = found.0; there = found.1; named = found.2; unfinished = sym found.3 ∙ new.0 }) (λ columns fits. tt) made

-- a commit without an error
commit_or_not-Accept : (facts : Facts) (look : Look) (streams : List StreamRef) (errors : List StreamError) (now : ℤ) (entry : Entry) (told : Reply)
    → names_twice streams ≡ false → stream_errors look.stream streams ≡ errors → commit_or_not facts streams errors now ≡ Accept entry told → Follows facts look (command.Commit streams) now entry
commit_or_not-Accept facts look streams [] now entry told once good e =
    let step = or_refuse-Accept (unless (entries_rules facts) (moment_at facts now)) (λ moment. Accept (entry_of facts moment (change.Commit streams)) (reply.Committed moment)) entry told e in
    let none = unless-Ok (entries_rules facts) (moment_at facts now) step.0 step.1 in
    let made : entry_of facts step.0 (change.Commit streams) ≡ entry = cc in
    follows facts look (command.Commit streams) now step.0 (change.Commit streams) entry (few facts none.0) (sym none.1)
    (record { once = once; good = good }) (λ columns fits. tt) made
commit_or_not-Accept facts look streams (error ∷ errors) now entry told once good e = absurd (cc)

commit_answer-Accept : (facts : Facts) (look : Look) (streams : List StreamRef) (now : ℤ) (entry : Entry) (told : Reply)
    → commit_answer facts streams (commit_check look.stream streams) now ≡ Accept entry told → Follows facts look (command.Commit streams) now entry
commit_answer-Accept facts look streams now entry told e =
    let checked = or_refuse-Accept (commit_check look.stream streams) (λ errors. commit_or_not facts streams errors now) entry told e in
    let none = unless-Ok (commit_rules streams) (stream_errors look.stream streams) checked.0 checked.1 in
    commit_or_not-Accept facts look streams checked.0 now entry told none.0.1.0 none.1 checked.2

get_answer-Accept : (check : Result StreamState Refusal) (P : Type 0) (entry : Entry) (told : Reply) → get_answer check ≡ Accept entry told → P
get_answer-Accept (Ok state) P entry told e = absurd (cc)
get_answer-Accept (Err refusal) P entry told e = absurd (cc)

-- a session
session_answer-Accept : (facts : Facts) (look : Look) (pred : Pred) (fields : List ℕ) (count : ℤ) (snapshot : Option ℤ) (now : ℤ) (entry : Entry) (told : Reply)
    → session_answer facts look.visible_by pred fields count snapshot now ≡ Accept entry told → Follows facts look (command.Session pred fields count snapshot) now entry
session_answer-Accept facts look pred fields count snapshot now entry told e =
    let at : ℤ → ℕ = λ moment. look.visible_by (unwrap_or snapshot moment) in
    let roots : ℤ → ℕ = λ moment. roots_of (at moment) (nat_abs count) in
    let step = or_refuse-Accept (unless (session_rules facts count) (moment_at facts now)) (λ moment. begin_answer facts pred fields (at moment) (roots moment) moment) entry told e in
    let none = unless-Ok (session_rules facts count) (moment_at facts now) step.0 step.1 in
    let made : entry_of facts step.0 (change.Session (facts.sessions + 1) (at step.0) pred fields (roots step.0)) ≡ entry = cc in
    follows facts look (command.Session pred fields count snapshot) now step.0 (change.Session (facts.sessions + 1) (at step.0) pred fields (roots step.0)) entry
    (few facts none.0.1.1) (sym none.1)
    (record {
      next = refl;
      room = leb-false MAX_SESSIONS facts.sessions none.0.1.0;
      moment = unwrap_or snapshot step.0;
      visible = refl;
      count = nat_abs count;
      cut = refl;
    }) (λ columns fits. fits) made

read_check-Ok : (found : Option ReadNode) (now : ℤ) (state : ReadNode) → read_check found now ≡ Ok state → found ≡ Some state
read_check-Ok None now state e = absurd (cc)
read_check-Ok (Some there) now state e = ap Some (unless-Ok (read_rules there now) there state e).1

-- a split that makes children
cut_answer-Accept : (facts : Facts) (look : Look) (session node : ℕ) (state : ReadNode) (cut : Cut) (now : ℤ) (entry : Entry) (told : Reply)
    → look.node session node ≡ Some state → cut_by state.node state.nodes ≡ cut → cut_answer facts session node cut now ≡ Accept entry told
    → Follows facts look (command.Split session node) now entry
cut_answer-Accept facts look session node state cut.Small now entry told there cuts e = absurd (cc)
cut_answer-Accept facts look session node state (cut.Already left right) now entry told there cuts e = absurd (cc)
cut_answer-Accept facts look session node state (cut.Full nodes) now entry told there cuts e = absurd (cc)
cut_answer-Accept facts look session node state (cut.Made left right) now entry told there cuts e =
    let step = or_refuse-Accept (unless (entries_rules facts) (moment_at facts now)) (λ moment. Accept (entry_of facts moment (change.Split session node left right)) (reply.Children left right)) entry told e in
    let none = unless-Ok (entries_rules facts) (moment_at facts now) step.0 step.1 in
    let made : entry_of facts step.0 (change.Split session node left right) ≡ entry = cc in
    follows facts look (command.Split session node) now step.0 (change.Split session node left right) entry (few facts none.0) (sym none.1)
    (record { state = state; there = there; made = cuts }) (λ columns fits. tt) made

split_answer-Accept : (facts : Facts) (look : Look) (session node : ℕ) (now : ℤ) (entry : Entry) (told : Reply)
    → split_answer facts session node (read_check (look.node session node) (moment_at facts now)) now ≡ Accept entry told
    → Follows facts look (command.Split session node) now entry
split_answer-Accept facts look session node now entry told e =
    let found = or_refuse-Accept (read_check (look.node session node) (moment_at facts now)) (λ state. cut_answer facts session node (cut_by state.node state.nodes) now) entry told e in
    cut_answer-Accept facts look session node found.0 (cut_by found.0.node found.0.nodes) now entry told
    (read_check-Ok (look.node session node) (moment_at facts now) found.0 found.1) refl found.2

-- what is so of each entry that an answer accepts
pub answer_by-Follows : (facts : Facts) (look : Look) (c : Command) (now : ℤ) (entry : Entry) (told : Reply)
    → answer_by facts look c now ≡ Accept entry told → Follows facts look c now entry
unfolding answer_by
answer_by-Follows facts look (command.Create kind) now entry told e = create_answer-Accept facts look kind now entry told e
answer_by-Follows facts look (command.Append on offset rows bytes) now entry told e = append_answer-Accept facts look on offset rows bytes now entry told e
answer_by-Follows facts look (command.Flush on offset) now entry told e = flush_answer-Accept facts look on offset now entry told e
answer_by-Follows facts look (command.Finalise on) now entry told e = finalise_answer-Accept facts look on now entry told e
answer_by-Follows facts look (command.Commit streams) now entry told e = commit_answer-Accept facts look streams now entry told e
answer_by-Follows facts look (command.Get on) now entry told e = get_answer-Accept (get_check (look.stream on)) (Follows facts look (command.Get on) now entry) entry told e
answer_by-Follows facts look (command.Session pred fields count snapshot) now entry told e = session_answer-Accept facts look pred fields count snapshot now entry told e
answer_by-Follows facts look (command.Split session node) now entry told e = split_answer-Accept facts look session node now entry told e

pub answer_by-Accept : (facts : Facts) (look : Look) (c : Command) (now : ℤ) (entry : Entry) (told : Reply)
    → answer_by facts look c now ≡ Accept entry told → IsMade facts look entry
answer_by-Accept facts look c now entry told e = (answer_by-Follows facts look c now entry told e).made
