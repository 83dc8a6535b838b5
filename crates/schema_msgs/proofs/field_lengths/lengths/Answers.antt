-- Each field is measured with those within it.
use Rattle.std.proofs.Common.{◌≡◌, ℕ, suc, List, [], ◌∷◌, ◌-◌, drop, drop-cons, get_or, length, sym, subst, ap, ◌∙◌, arith}
use Rattle.std.proofs.lemmas.List.{drop_all}
use Rattle.schema_msgs.specs.declared.nested_fields.NestedField.{NestedField}
use Rattle.schema_msgs.specs.Lengths.{sizes_of, IsBelow}
use Rattle.schema_msgs.proofs.LengthLemmas.{sizes_more, below_none}
use Rattle.schema_msgs.proofs.field_lengths.lengths.Goals as goal

pub loop-i-init : goal.loop-i-init
unfolding sizes_of
loop-i-init c =
    let none : drop (length c.args.fields.now) c.args.fields.now ≡ [] = drop_all (length c.args.fields.now) c.args.fields.now (omega arith) in
    rw none (record { measured = c.in_ok-all.ensures.items; below = below_none c.new-below.result.items c.new-below.ensures.items })

pub loop-i-preserved : goal.loop-i-preserved
loop-i-preserved c =
    let i : ℕ = c.loop-i.i - 1 in
    let behind : List NestedField = drop c.loop-i.i c.args.fields.now in
    let next : suc i ≡ c.loop-i.i = omega arith in
    let front : drop i c.args.fields.now ≡ c.index-fields-i.result ∷ behind =
    drop-cons c.args.fields.now i c.index-fields-i.result (omega arith) ∙ ap (λ k. get_or c.args.fields.now i c.index-fields-i.result ∷ drop k c.args.fields.now) next
    ∙ ap (λ f. f ∷ behind) (sym c.index-fields-i.is) in
    let measured = sizes_more (drop i c.args.fields.now) behind c.index-fields-i.result c.loop-i.all.items c.in_ok-measure.field-0 front c.loop-i.invariant.measured (c.in_ok-measure.ensures.len behind c.loop-i.invariant.below) in
    record {
      measured = rw c.in_ok-push.ensures.items measured;
      below = subst (IsBelow c.measure.new.below.items) (sym front) (c.in_ok-measure.ensures.below behind c.loop-i.invariant.below);
    }
