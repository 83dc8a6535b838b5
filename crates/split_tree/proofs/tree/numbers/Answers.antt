use Rattle.std.proofs.Common.{◌∷◌, [], ◌++◌, ◌∙◌, ap, sym, arith}
use Rattle.std.proofs.Math.Nat.{zero-add}
use Rattle.std.specs.List.{range_with_len}
use Rattle.split_tree.proofs.Roots.{numbers-push}
use Rattle.split_tree.proofs.tree.numbers.Goals as goal

pub loop-i-preserved : goal.loop-i-preserved
loop-i-preserved c = (
  c.in_ok-push.ensures.items
      ∙ ap (λ xs. xs ++ c.loop-i.i ∷ []) c.loop-i.invariant.0
      ∙ ap (λ m. range_with_len 0 c.loop-i.i ++ m ∷ []) (sym (zero-add c.loop-i.i))
      ∙ sym (numbers-push 0 c.loop-i.i),
  omega (arith, c.loop-i-test.true),
)
