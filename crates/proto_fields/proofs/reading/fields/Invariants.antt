use Rattle.std.proofs.Common.{◌-◌, length}
use Rattle.proto_fields.proofs.MessageLemmas.{HasRead}
use Rattle.proto_fields.proofs.reading.fields.Given as goal

abbrev pub invariant-loop-at : goal.invariant-loop-at
invariant-loop-at l = HasRead l.bytes l.found.items l.at

abbrev pub decreases-loop-at : goal.decreases-loop-at
decreases-loop-at l = length l.bytes - l.at
