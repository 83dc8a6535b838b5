-- A text more is new, or it was there before, or the table can have its stream.
use Rattle.std.proofs.Common.{◌<◌, List, ℕ, true, cond, length, take_all, subst, arith, sym, ap, ◌∙◌}
use Rattle.std.specs.Ordering.{nat_cmp}
use Rattle.std.specs.Cmp.Lexicographic.{slice_cmp}
use Rattle.std.specs.BTreeSet.{contains_by}
use Rattle.std.specs.Str.{bytes_eq}
use Rattle.row_descriptor.proofs.DistinctLemmas.{was_new, was_there}
use Rattle.table_model.specs.declared.streams.StreamRef.TheVariants as stream
use Rattle.call_read.proofs.UnknownLemmas.{Seen, known, seen_again, seen_all, seen_more, seen_same, set_more}
use Rattle.call_read.proofs.streams.repeats_unknown.Goals as goal
use Rattle.call_read.proofs.streams.repeats_unknown.Goals.{in-Other+in_ok-insert-in-Other+else-not-branch, in-Default}

pub returns-then-not-branch : goal.returns-then-not-branch
returns-then-not-branch c =
    let within : c.loop-place.place < length c.args.refs.now = omega (arith, c.loop-place-test.true, c.requires) in
    seen_again c.args.texts.now c.args.refs.now c.loop-place.place c.index-texts-place.result stream.Default (λ (q : List ℕ). contains_by (λ k. slice_cmp nat_cmp q k.now) c.loop-place.seen)
    c.loop-place-test.true within c.index-texts-place.is c.in-Other.is
    (ap (λ (q : List ℕ). contains_by (λ k. slice_cmp nat_cmp q k.now) c.loop-place.seen) (sym c.text.ensures) ∙ was_there _ _ c.in_ok-insert-in-Other.ensures.added c.if-not-branch.true)
    c.loop-place.invariant

pub loop-place-preserved : goal.loop-place-preserved
loop-place-preserved c =
    let within : c.loop-place.place < length c.args.refs.now = omega (arith, c.loop-place-test.true, c.requires) in
    let has = λ (q : List ℕ). contains_by (λ k. slice_cmp nat_cmp q k.now) c.loop-place.seen in
    let has' = λ (q : List ℕ). contains_by (λ k. slice_cmp nat_cmp q k.now) c.match-refs-place.seen in
    elim c.match-refs-place.branch [
      | in-Other+in_ok-insert-in-Other+else-not-branch w ↦
          seen_more c.args.texts.now c.args.refs.now c.loop-place.place c.index-texts-place.result stream.Default has has'
          c.loop-place-test.true within c.index-texts-place.is w.in-Other.is
          (ap has (sym w.text.ensures) ∙ was_new _ _ w.in_ok-insert-in-Other.ensures.added w.if-not-branch.false)
          (λ q. ap (λ s. contains_by (λ k. slice_cmp nat_cmp q k.now) s) w.seen-is
          ∙ set_more c.loop-place.seen w.insert.new.self w.text.result w.in_ok-insert-in-Other.ensures.updates q
          ∙ ap (λ t. cond (bytes_eq t q) true (has q)) w.text.ensures)
          c.loop-place.invariant
      | in-Default w ↦
          seen_same c.args.texts.now c.args.refs.now c.loop-place.place c.index-texts-place.result stream.Default has'
          c.loop-place-test.true within (known _ w.in-Default.is)
          (subst (λ s. Seen c.args.texts.now c.args.refs.now c.loop-place.place (λ (q : List ℕ). contains_by (λ k. slice_cmp nat_cmp q k.now) s)) (sym w.seen-is) c.loop-place.invariant)
    ]

pub returns : goal.returns
returns c =
    seen_all c.args.texts.now c.args.refs.now c.loop-place.place (λ (q : List ℕ). contains_by (λ k. slice_cmp nat_cmp q k.now) c.loop-place.seen)
    (take_all c.loop-place.place c.args.texts.now c.loop-place-test.false)
    (take_all c.loop-place.place c.args.refs.now (omega (arith, c.loop-place-test.false, c.requires)))
    c.loop-place.invariant
