use Rattle.std.proofs.Common.{◌≡◌, take, map}
use Rattle.std.specs.List.{concat}
use Rattle.proto_fields.specs.Spans.{part, spans_of}
use Rattle.proto_fields.proofs.selecting.merged.Given as goal

abbrev pub invariant-loop-field : goal.invariant-loop-field
invariant-loop-field l = l.joined.items ≡ concat (map (part l.bytes) (spans_of l.number (take l.field-index l.fields)))
