use Rattle.std.proofs.Common.{◌≡◌, ◌-◌}
use Rattle.filter.specs.Machine.{negations}
use Rattle.filter.proofs.parser.negations.Given as goal

abbrev pub invariant-loop : goal.invariant-loop
invariant-loop l = negations (l.nots - l.counter) l.meaning ≡ negations l.nots l.initial.meaning
