-- The texts so far are written.
use Rattle.std.proofs.Common.{◌≡◌, ◌++◌, take}
use Rattle.std.specs.List.{flat_map}
use Rattle.proto_fields.specs.Record.{record_bytes}
use Rattle.write_msgs.specs.Writing.{bytes_field}
use Rattle.read_msgs.proofs.writing.put_texts.Given as goal

abbrev pub invariant-loop-text : goal.invariant-loop-text
invariant-loop-text l = l.out ≡ l.fn.out ++ flat_map (λ text. record_bytes (bytes_field l.number text)) (take l.text-index l.texts)
