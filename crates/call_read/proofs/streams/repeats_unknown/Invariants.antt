-- No text was there twice so far, and the set has those so far.
use Rattle.std.proofs.Common.{ℕ, List}
use Rattle.std.specs.Ordering.{nat_cmp}
use Rattle.std.specs.Cmp.Lexicographic.{slice_cmp}
use Rattle.std.specs.BTreeSet.{contains_by}
use Rattle.call_read.proofs.UnknownLemmas.{Seen}
use Rattle.call_read.proofs.streams.repeats_unknown.Given as goal

abbrev pub invariant-loop-place : goal.invariant-loop-place
invariant-loop-place l = Seen l.texts l.refs l.place (λ (q : List ℕ). contains_by (λ k. slice_cmp nat_cmp q k.now) l.seen)
