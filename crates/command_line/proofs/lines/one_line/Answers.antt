use Rattle.command_line.proofs.LineLemmas as line
use Rattle.command_line.proofs.lines.one_line.Goals as goal

pub returns : goal.returns
returns c = line.one_line
