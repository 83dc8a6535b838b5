use Rattle.std.proofs.Common.{◌≤◌, length}
use Rattle.std.proofs.Math.Nat.{le_trans}
use Rattle.std.specs.List.{sum_by}
use Rattle.proto_fields.specs.Spans.{payload_size}
use Rattle.row_decode.proofs.FitsLemmas.{cells_from-fit}
use Rattle.row_decode.proofs.SizeLemmas.{cells_from-size}
use Rattle.row_decode.proofs.rows.decode_row.Goals as goal

pub returns-clause-fits : goal.returns-clause-fits
returns-clause-fits c = λ columns bound. rw c.from_vec.ensures (cells_from-fit c.columns.result.now columns _ c.in_ok-cells.cells.items (rw c.columns.ensures.value bound) c.in_ok-cells.ensures)

pub returns-clause-size : goal.returns-clause-size
returns-clause-size c =
    let size : sum_by payload_size c.in_ok-records.records.items ≤ length c.args.bytes.now = c.in_ok-records.ensures.size in
    let cells = cells_from-size c.columns.result.now c.args.bytes.now c.deref.result.now c.in_ok-cells.cells.items c.columns.ensures.is_binding.apart c.in_ok-cells.ensures in
    let few = rw c.deref.ensures.value at cells in
    rw c.from_vec.ensures (le_trans few size)
