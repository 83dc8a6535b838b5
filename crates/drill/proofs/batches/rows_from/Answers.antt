-- Each row is put behind those before it.
use Rattle.std.proofs.Common.{ℕ, ◌+◌, ◌++◌, List, [], ◌∷◌, map, refl, sym, ap, ◌∙◌, arith}
use Rattle.std.proofs.lemmas.List.FromFn.{map-range_with_len_more}
use Rattle.std.specs.List.{range_with_len}
use Rattle.column_types.specs.declared.row.Row.{Row}
use Rattle.drill.specs.Rows.{row_of}
use Rattle.drill.proofs.batches.rows_from.Goals as goal

pub loop-place-preserved : goal.loop-place-preserved
loop-place-preserved c =
    let made : ℕ → Row = row_of c.args.writer in (
      c.in_ok-push.ensures.items
          ∙ ap (λ (xs : List Row). xs ++ c.in_ok-row_of.field-0 ∷ []) c.loop-place.invariant.0
          ∙ ap (λ (x : Row). map made (range_with_len c.args.first c.loop-place.place) ++ x ∷ []) c.in_ok-row_of.ensures
          ∙ sym (map-range_with_len_more made c.args.first c.loop-place.place (c.args.first + c.loop-place.place) refl),
      omega (arith, c.loop-place-test.true),
    )
