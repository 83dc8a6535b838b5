use Rattle.std.proofs.Common.{arith}
use Rattle.std.specs.Str.Parse.{digits_value}
use Rattle.command_line.specs.Numbers.{is_decimal}
use Rattle.command_line.proofs.NumberLemmas.{too_great}
use Rattle.command_line.proofs.numbers.number_of.Goals as goal

pub returns-in-None : goal.returns-in-None
returns-in-None c =
    too_great c.args.least c.args.most (digits_value 10 c.args.text.now) (is_decimal c.args.text.now) (omega (arith, c.in-None.ensures, c.ranges.most))
