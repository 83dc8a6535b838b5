use Rattle.std.proofs.Common.{◌≡◌, drop}
use Rattle.proto_fields.specs.Spans.{records_in}
use Rattle.row_decode.specs.Row.{cells_from}
use Rattle.row_decode.proofs.RowLemmas.{with_cells}
use Rattle.row_decode.proofs.cells.cells_of.Given as goal

abbrev pub invariant-loop-at : goal.invariant-loop-at
invariant-loop-at l =
    with_cells l.cells.items (cells_from l.at (drop l.at l.columns) (records_in l.bytes l.records)) ≡ cells_from 0 l.columns (records_in l.bytes l.records)
