use Rattle.std.proofs.Common.{◌≡◌, take, is_some}
use Rattle.proto_fields.specs.Selection.{last_of}
use Rattle.proto_fields.specs.Spans.{spans_of}
use Rattle.proto_fields.proofs.selecting.size_of_all.Given as goal

abbrev pub invariant-loop-field : goal.invariant-loop-field
invariant-loop-field l = is_some l.size ≡ is_some (last_of (spans_of l.number (take l.field-index l.fields)))
