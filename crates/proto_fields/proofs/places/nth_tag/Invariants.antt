use Rattle.std.proofs.Common.{◌-◌, length}
use Rattle.proto_fields.proofs.PlaceLemmas.{HasPassed}
use Rattle.proto_fields.proofs.places.nth_tag.Given as goal

abbrev pub invariant-loop-at : goal.invariant-loop-at
invariant-loop-at l = HasPassed l.bytes l.number l.n l.at l.left

abbrev pub decreases-loop-at : goal.decreases-loop-at
decreases-loop-at l = length l.bytes - l.at
