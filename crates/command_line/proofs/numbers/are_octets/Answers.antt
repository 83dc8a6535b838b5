use Rattle.std.proofs.Common.{arith}
use Rattle.command_line.proofs.NumberLemmas.{too_few_octets, too_many_octets}
use Rattle.command_line.proofs.numbers.are_octets.Goals as goal

pub returns-in_default : goal.returns-in_default
returns-in_default c = too_few_octets c.args.parts.now (omega (arith, c.in_default.len_below))

pub returns-in_default-2 : goal.returns-in_default-2
returns-in_default-2 c = too_many_octets c.args.parts.now (omega (arith, c.in_default.len_at_least))
