use Rattle.std.proofs.Common.{◌≡◌, ℕ, List, take}
use Rattle.proto_fields.specs.Selection.{varints_of, last_of}
use Rattle.proto_fields.specs.Spans.{records_in}
use Rattle.proto_fields.proofs.selecting.last_varint.Given as goal

abbrev pub invariant-loop-field : goal.invariant-loop-field
invariant-loop-field l = (bytes : List ℕ) → l.last ≡ last_of (varints_of l.number (records_in bytes (take l.field-index l.fields)))
