use Rattle.command_line.proofs.LineLemmas.{words_read}
use Rattle.command_line.proofs.lines.command_of.Goals as goal

pub returns-in-Some-command_named : goal.returns-in-Some-command_named
returns-in-Some-command_named c =
    words_read c.args.words.now c.in-Some.behind.now c.in-Some.first.now c.as_str.result.now c.in-Some-command_named.command c.line_behind.result
    c.in-Some.ensures.cases.0 c.as_str.ensures.value c.in-Some-command_named.ensures c.line_behind.ensures
