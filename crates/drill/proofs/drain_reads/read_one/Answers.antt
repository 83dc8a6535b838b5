-- The row that the cursor found is the next one.
use Rattle.std.proofs.Common.{List, [], ◌∷◌, ◌++◌, ap, ◌∙◌}
use Rattle.column_types.specs.declared.cell.Cell.{Cell}
use Rattle.column_types.specs.Fields.{projected}
use Rattle.drill.proofs.ReadLemmas.{next_row}
use Rattle.drill.proofs.drain_reads.read_one.Goals as goal

pub returns : goal.returns
returns c =
    let new = c.next_place.new.self in
    let row = c.row.result.now in
    let fields = c.fields.ensures ∙ ap (λ lease. lease.fields) c.lease.ensures in (
      projected new.lease.fields row,
      next_row c.args.cursor.now new c.in-Row.place row c.in-Row.ensures (c.row.ensures row),
      c.in_ok-push.ensures.items ∙ ap (λ (x : List Cell). c.args.rows.now.items ++ x ∷ []) (c.in_ok-row.ensures.value ∙ ap (λ fields. projected fields row) fields),
    )
