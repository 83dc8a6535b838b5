-- The runs so far are copied.
use Rattle.std.proofs.Common.{◌≡◌, map, take}
use Rattle.proto_fields.specs.Spans.{part}
use Rattle.program.proofs.nested.copies.Given as goal

abbrev pub invariant-loop-span : goal.invariant-loop-span
invariant-loop-span l = l.all.items ≡ map (part l.bytes) (take l.span-index l.spans)
