-- What is written and the cells to come are the whole datum.
use Rattle.std.proofs.Common.{◌≡◌, ◌++◌, drop}
use Rattle.column_types.specs.Fields.{projected}
use Rattle.avro_rows.specs.Datum.{datum_of}
use Rattle.avro_rows.proofs.rows.push_cells_at.Given as goal

abbrev pub invariant-loop-number : goal.invariant-loop-number
invariant-loop-number l =
    l.out.items ++ datum_of (projected (drop l.number-index l.numbers) l.columns) (projected (drop l.number-index l.numbers) l.cells)
    ≡ l.fn.out.items ++ datum_of (projected l.numbers l.columns) (projected l.numbers l.cells)
