use Rattle.std.proofs.Common.{◌≤◌, length, take}
use Rattle.std.specs.List.{sum_by}
use Rattle.column_types.specs.Sizes.{bytes_of_row}
use Rattle.row_decode.specs.Answers.{AreRows}
use Rattle.row_decode.proofs.rows.decode_rows.Given as goal

abbrev pub invariant-loop-bytes : goal.invariant-loop-bytes
invariant-loop-bytes l =
    AreRows l.binding (take l.bytes-index l.rows) l.decoded.items
    × (sum_by bytes_of_row l.decoded.items ≤ sum_by length (take l.bytes-index l.rows))
