use Rattle.std.proofs.Common.{◌≡◌, drop, map}
use Rattle.proto_fields.specs.Spans.{part}
use Rattle.row_descriptor.specs.Descriptor.{field_of, all_of}
use Rattle.row_descriptor.proofs.ListLemmas.{with_front}
use Rattle.row_descriptor.proofs.descriptor.fields_at.Given as goal

-- the fields found so far, in front of what the other places give, are what all places give
abbrev pub invariant-loop-span : goal.invariant-loop-span
invariant-loop-span l =
    with_front l.found.items (all_of (map field_of (map (part l.bytes) (drop l.span-index l.spans)))) ≡ all_of (map field_of (map (part l.bytes) l.spans))
