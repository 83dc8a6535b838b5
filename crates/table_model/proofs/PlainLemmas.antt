-- The history of a table stays within its limits.
use Rattle.std.proofs.Common.{◌≡◌, ℕ, ◌+◌, ◌≤◌, ℤ, pos, ◌≤ℤ◌, List, [], ◌∷◌, ◌++◌, append_assoc, length, sym, arith}
use Rattle.std.specs.Prelude.{fold}
use Rattle.std.specs.Int.{int_max}
use Rattle.std.proofs.lemmas.Int.{ints, clamps}
use Rattle.std.proofs.lemmas.List.{append-nil, length_push}
use Rattle.std.proofs.lemmas.List.Elements.{All-nil, All-push}
use Rattle.std.proofs.lemmas.List.Sums.{fold_push, sum_by_push}
use Rattle.column_types.specs.declared.column.Column.{Column}
use Rattle.split_tree.specs.declared.node.TheConstants.{MOST_ROOTS}
use Rattle.split_tree.specs.Intervals.{roots_of}
use Rattle.table_model.specs.declared.facts.Facts.{Facts}
use Rattle.table_model.specs.declared.limits.TheConstants.{LATEST_READING, MAX_WEIGHT}
use Rattle.table_model.specs.declared.commands.Command.{Command}
use Rattle.table_model.specs.declared.entries.Entry.{Entry}
use Rattle.table_model.specs.declared.entries.Change.{Change}
use Rattle.table_model.specs.declared.entries.Change.TheVariants as change
use Rattle.table_model.specs.declared.replies.Answer.{Answer}
use Rattle.table_model.specs.declared.replies.Answer.TheVariants.{Accept, Same, Refuse}
use Rattle.table_model.specs.History.{History, moment_of}
use Rattle.table_model.specs.Facts.{size_added, weight_of, facts_of}
use Rattle.table_model.specs.Look.{Look, look_of}
use Rattle.table_model.specs.Sessions.{HasFewRoots}
use Rattle.table_model.specs.Fits.{ChangeFits, RisesFrom}
use Rattle.table_model.specs.Answer.{answer_of}
use Rattle.table_model.specs.Accepted.{IsMade, Makes}
use Rattle.table_model.specs.Legal.{EachIsAccepted, Takes}
use Rattle.table_model.specs.Laws.{LegalIsWithin}
use Rattle.table_model.specs.Table.{IsWithin, history_after}
use Rattle.table_model.proofs.ShownLemmas.{shown_push}
use Rattle.table_model.proofs.AcceptedLemmas.{answer_by-Follows}

pub light_after : (columns : List Column) (history : History) (caller : ℕ) (c : Change) → IsWithin columns history
    → Makes (facts_of (length columns) history caller) (look_of history) c → weight_of (length columns) history + size_added (length columns) c ≤ MAX_WEIGHT
light_after columns history caller (change.Append on offset rows bytes) within makes = makes.light
light_after columns history caller (change.Create number kind) within makes = let light = within.light in omega arith
light_after columns history caller (change.Flush on upto) within makes = let light = within.light in omega arith
light_after columns history caller (change.Finalise on) within makes = let light = within.light in omega arith
light_after columns history caller (change.Commit streams) within makes = let light = within.light in omega arith
light_after columns history caller (change.Session number at pred fields roots) within makes = let light = within.light in omega arith
light_after columns history caller (change.Split session node left right) within makes = let light = within.light in omega arith

-- a moment that is no less than all before it
rises-push : (least : ℤ) (history : History) (entry : Entry) → RisesFrom least history → fold (λ latest e. int_max latest e.moment) least history ≤ℤ entry.moment
    → RisesFrom least (history ++ entry ∷ [])
rises-push least [] entry rises above = (above, tt)
rises-push least (first ∷ history) entry rises above =
    (rises.0, rises-push first.moment history entry rises.1 (rw (later least first.moment rises.0) at above))
  where
    later : (least moment : ℤ) → least ≤ℤ moment → int_max least moment ≡ moment
    later least moment below = omega (arith, ints, clamps)

pub moment_of-push : (history : History) (entry : Entry) → moment_of (history ++ entry ∷ []) ≡ int_max (moment_of history) entry.moment
moment_of-push history entry = fold_push (λ latest e. int_max latest e.moment) (pos 0) history entry

most_roots : (at count : ℕ) → roots_of at count ≤ MOST_ROOTS
most_roots at count = grind arith

few_roots : (facts : Facts) (look : Look) (c : Change) → Makes facts look c → HasFewRoots c
few_roots facts look (change.Create number kind) makes = tt
few_roots facts look (change.Append on offset rows bytes) makes = tt
few_roots facts look (change.Flush on upto) makes = tt
few_roots facts look (change.Finalise on) makes = tt
few_roots facts look (change.Commit streams) makes = tt
few_roots facts look (change.Session number at pred fields roots) makes = rw makes.cut (most_roots at makes.count)
few_roots facts look (change.Split session node left right) makes = tt

-- an entry more, of which is so what is so of all accepted ones
pub within-push : (columns : List Column) (history : History) (caller : ℕ) (entry : Entry) → IsWithin columns history
    → IsMade (facts_of (length columns) history caller) (look_of history) entry → ChangeFits columns entry.change → entry.moment ≤ℤ LATEST_READING
    → IsWithin columns (history ++ entry ∷ [])
within-push columns history caller entry within made fits early =
    let room = made.few in
    record {
      few = rw (length_push history entry) (omega arith);
      light = rw (sum_by_push (λ e. size_added (length columns) e.change) history entry) (light_after columns history caller entry.change within made.makes);
      fits = All-push (λ e. ChangeFits columns e.change) history entry within.fits fits;
      rises = rises-push (pos 0) history entry within.rises made.rises;
      in_time = rw (moment_of-push history entry) (both (moment_of history) entry.moment within.in_time early);
      rooted = All-push (λ e. HasFewRoots e.change) history entry within.rooted (few_roots (facts_of (length columns) history caller) (look_of history) entry.change made.makes);
      shown = shown_push columns history caller entry within made.makes;
    }
  where
    both : (a b : ℤ) → a ≤ℤ LATEST_READING → b ≤ℤ LATEST_READING → int_max a b ≤ℤ LATEST_READING
    both a b p q = omega (arith, ints, clamps)

early : (latest now : ℤ) → latest ≤ℤ LATEST_READING → now ≤ℤ LATEST_READING → int_max latest now ≤ℤ LATEST_READING
early latest now p q = omega (arith, ints, clamps)

-- the history behind the answer to a command that the table takes is within the limits
pub IsWithin-after : (columns : List Column) (history : History) (caller : ℕ) (c : Command) (now : ℤ) (answer : Answer) → IsWithin columns history
    → Takes columns c → now ≤ℤ LATEST_READING → answer ≡ answer_of (length columns) history caller c now → IsWithin columns (history_after history answer)
IsWithin-after columns history caller c now (Accept entry told) within taken in_time answered =
    let is = answer_by-Follows (facts_of (length columns) history caller) (look_of history) c now entry told (sym answered) in
    within-push columns history caller entry within is.made (is.fits columns taken.fits)
    (rw is.moment (early (moment_of history) now within.in_time in_time))
IsWithin-after columns history caller c now (Same told) within taken in_time answered = within
IsWithin-after columns history caller c now (Refuse refusal) within taken in_time answered = within

-- each legal history is within the limits
within-more : (columns : List Column) (before more : History) → IsWithin columns before → EachIsAccepted columns before more → IsWithin columns (before ++ more)
within-more columns before [] within each = rw (append-nil before) within
within-more columns before (entry ∷ more) within each =
    rw (← append_assoc before (entry ∷ []) more) (
    within-more columns (before ++ entry ∷ []) more
    (IsWithin-after columns before entry.caller each.0.asked each.0.reading (Accept entry each.0.reply) within each.0.taken each.0.in_time (sym each.0.answered)) each.1)

pub within-empty : (columns : List Column) → IsWithin columns []
within-empty columns = record {
  few = omega arith;
  light = omega arith;
  fits = All-nil (λ e. ChangeFits columns e.change);
  rises = tt;
  in_time = omega (arith, ints);
  rooted = All-nil (λ e. HasFewRoots e.change);
  shown = omega arith;
}

pub legal_within : LegalIsWithin
legal_within columns history legal = within-more columns [] history (within-empty columns) legal
