use Rattle.std.proofs.Common.{◌-◌, length}
use Rattle.proto_fields.proofs.PlaceLemmas.{HasLast}
use Rattle.proto_fields.proofs.places.last_tag.Given as goal

abbrev pub invariant-loop-at : goal.invariant-loop-at
invariant-loop-at l = HasLast l.bytes l.number l.at l.last

abbrev pub decreases-loop-at : goal.decreases-loop-at
decreases-loop-at l = length l.bytes - l.at
