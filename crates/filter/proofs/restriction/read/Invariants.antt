use Rattle.std.proofs.Common.{◌-◌, length}
use Rattle.filter.proofs.Fronts.{AtToken}
use Rattle.filter.proofs.restriction.read.Given as goal

abbrev pub invariant-tokens : goal.invariant-tokens
invariant-tokens l = AtToken l.schema l.text l.reading

abbrev pub decreases-tokens : goal.decreases-tokens
decreases-tokens l = length l.text - l.reading.at
