-- The fields behind are measured.
use Rattle.std.proofs.Common.{◌≡◌, drop}
use Rattle.std.specs.Prelude.{reverse}
use Rattle.schema_msgs.specs.Lengths.{sizes_of, IsBelow}
use Rattle.schema_msgs.proofs.field_lengths.lengths.Given as goal

abbrev pub invariant-loop-i : goal.invariant-loop-i
invariant-loop-i l = record {
  measured : l.all.items ≡ reverse (sizes_of (drop l.i l.fields));
  below : IsBelow l.below.items (drop l.i l.fields);
}
