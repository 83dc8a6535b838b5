use Rattle.std.proofs.Common.{◌≡◌, take}
use Rattle.proto_fields.specs.Spans.{spans_of}
use Rattle.proto_fields.proofs.selecting.all_bytes.Given as goal

abbrev pub invariant-loop-field : goal.invariant-loop-field
invariant-loop-field l = l.all.items ≡ spans_of l.number (take l.field-index l.fields)
