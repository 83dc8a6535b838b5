-- A name is new, or it names a stream that was named before.
use Rattle.std.proofs.Common.{◌≡◌, ℕ, Bool, true, false, ◌||◌, cond, not, nat_eq, take, refl, sym, ap, ◌∙◌, arith}
use Rattle.std.specs.HashSet.{contains}
use Rattle.std.proofs.lemmas.Bool.Decides.{nat_tests}
use Rattle.table_model.specs.declared.streams.StreamRef.TheVariants as stream
use Rattle.table_model.proofs.CommitLemmas.{NamedOnce-more, any-Other, names_twice_by}
use Rattle.table_model.proofs.commits.names_twice.Goals as goal
use Rattle.table_model.proofs.commits.names_twice.Goals.{in-Default+else-has_default, in-Number+in_ok-insert-in-Number+else-not-branch, in-Other}

pub returns-then-has_default : goal.returns-then-has_default
returns-then-has_default c =
    names_twice_by c.args.streams.now c.loop-stream.stream-index stream.Default stream.Default c.loop-stream-test.true c.in-Default.is
    (sym c.loop-stream.invariant.default ∙ c.if-has_default.true)

or_false : (b : Bool) → b ≡ (b || false)
or_false true = refl
or_false false = refl

or_true : (b : Bool) → true ≡ (b || true)
or_true true = refl
or_true false = refl

was_new : (had added : Bool) → added ≡ not had → added ≡ true → had ≡ false
was_new true added e h = absurd (cc)
was_new false added e h = refl

key_more : (k q : ℕ) (had : Bool) → cond (nat_eq k q) true had ≡ (had || nat_eq q k)
key_more k q true = both (nat_eq k q)
  where
    both : (b : Bool) → cond b true true ≡ true
    both true = refl
    both false = refl
key_more k q false = grind (arith, nat_tests)

pub loop-stream-preserved : goal.loop-stream-preserved
loop-stream-preserved c =
    let named = c.loop-stream.invariant in
    elim c.match-stream.branch [
      | in-Default+else-has_default w ↦
          NamedOnce-more c.args.streams.now c.loop-stream.stream-index stream.Default stream.Default c.loop-stream.has_default c.match-stream.has_default
          (contains nat_eq c.loop-stream.numbers) (contains nat_eq c.match-stream.numbers)
          c.loop-stream-test.true w.in-Default.is named (sym named.default ∙ w.if-has_default.false)
          (w.has_default-is ∙ or_true c.loop-stream.has_default)
          (λ q. ap (λ n. contains nat_eq n q) w.numbers-is ∙ or_false (contains nat_eq c.loop-stream.numbers q))
      | in-Number+in_ok-insert-in-Number+else-not-branch w ↦
          NamedOnce-more c.args.streams.now c.loop-stream.stream-index stream.Default (stream.Number w.in-Number.number) c.loop-stream.has_default c.match-stream.has_default
          (contains nat_eq c.loop-stream.numbers) (contains nat_eq c.match-stream.numbers)
          c.loop-stream-test.true w.in-Number.is named
          (sym (named.numbers w.in-Number.number) ∙ was_new (contains nat_eq c.loop-stream.numbers w.in-Number.number) w.in_ok-insert-in-Number.field-0 w.in_ok-insert-in-Number.ensures.added w.if-not-branch.false)
          (w.has_default-is ∙ or_false c.loop-stream.has_default)
          (λ q.
          ap (λ n. contains nat_eq n q) w.numbers-is ∙ w.in_ok-insert-in-Number.ensures.updates.0 q
          ∙ key_more w.in-Number.number q (contains nat_eq c.loop-stream.numbers q))
      | in-Other w ↦
          NamedOnce-more c.args.streams.now c.loop-stream.stream-index stream.Default stream.Other c.loop-stream.has_default c.match-stream.has_default
          (contains nat_eq c.loop-stream.numbers) (contains nat_eq c.match-stream.numbers)
          c.loop-stream-test.true w.in-Other.is named (any-Other (take c.loop-stream.stream-index c.args.streams.now))
          (w.has_default-is ∙ or_false c.loop-stream.has_default)
          (λ q. ap (λ n. contains nat_eq n q) w.numbers-is ∙ or_false (contains nat_eq c.loop-stream.numbers q))
    ]
