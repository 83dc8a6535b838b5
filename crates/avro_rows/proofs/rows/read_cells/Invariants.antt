-- The cells read so far fit their columns, and their data begin the bytes.
use Rattle.std.proofs.Common.{take}
use Rattle.column_types.specs.Fields.{projected}
use Rattle.avro_rows.proofs.RowLemmas.{ReadSoFar}
use Rattle.avro_rows.proofs.rows.read_cells.Given as goal

abbrev pub invariant-loop-number : goal.invariant-loop-number
invariant-loop-number l = ReadSoFar (projected (take l.number-index l.numbers) l.columns) l.cells.items l.bytes l.rest
