-- The rows so far are written.
use Rattle.std.proofs.Common.{◌≡◌, take}
use Rattle.std.specs.List.{flat_map}
use Rattle.proto_fields.specs.Record.{record_bytes}
use Rattle.write_msgs.specs.declared.numbers.TheConstants.{SERIALIZED_ROWS}
use Rattle.write_msgs.specs.Writing.{bytes_field}
use Rattle.write_msgs.proofs.request_writing.write_rows.Given as goal

abbrev pub invariant-loop-row : goal.invariant-loop-row
invariant-loop-row l = l.out ≡ flat_map (λ row. record_bytes (bytes_field SERIALIZED_ROWS row)) (take l.row-index l.rows.serialized_rows)
