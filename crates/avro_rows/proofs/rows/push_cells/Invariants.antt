-- What is written and the cells to come are the whole datum.
use Rattle.std.proofs.Common.{◌≡◌, ◌++◌, drop}
use Rattle.column_types.specs.Fields.{projected}
use Rattle.avro_rows.specs.Datum.{datum_of}
use Rattle.avro_rows.proofs.rows.push_cells.Given as goal

abbrev pub invariant-loop-i : goal.invariant-loop-i
invariant-loop-i l =
    l.out.items ++ datum_of (projected (drop l.i l.numbers) l.columns) (drop l.i l.cells) ≡ l.fn.out.items ++ datum_of (projected l.numbers l.columns) l.cells
