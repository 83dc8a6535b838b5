use Rattle.command_line.proofs.NumberLemmas.{read_value}
use Rattle.command_line.proofs.numbers.value_of.Goals as goal

pub returns : goal.returns
returns c = rw c.ok.ensures.value (read_value c.args.text.now c.parse.result c.requires c.parse.ensures.value.0)
