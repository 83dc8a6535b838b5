-- The names so far are written.
use Rattle.std.proofs.Common.{◌≡◌, ◌++◌, take}
use Rattle.std.specs.List.{flat_map}
use Rattle.proto_fields.specs.Record.{record_bytes}
use Rattle.write_msgs.specs.declared.numbers.TheConstants.{WRITE_STREAMS}
use Rattle.write_msgs.specs.Writing.{bytes_field}
use Rattle.write_msgs.proofs.commits.put_names.Given as goal

abbrev pub invariant-loop-name : goal.invariant-loop-name
invariant-loop-name l = l.out ≡ l.fn.out ++ flat_map (λ name. record_bytes (bytes_field WRITE_STREAMS name)) (take l.name-index l.names)
