use Rattle.std.proofs.Common.{map}
use Rattle.std.specs.Prelude.{string_bytes}
use Rattle.std.proofs.lemmas.Result.{err_from_is_err_and}
use Rattle.command_line.specs.Steps.{texts_in}
use Rattle.command_line.proofs.LineLemmas.{behind, no_line}
use Rattle.command_line.proofs.lines.line_behind.Goals as goal

pub returns-in_err-matches : goal.returns-in_err-matches
returns-in_err-matches c =
    let p = err_from_is_err_and c.from_residual.result c.from_residual.ensures.1 in
    rw (p.1, p.2) (no_line c.args.command (map string_bytes c.args.words.now) c.in_err-matches.field-0.0 c.in_err-matches.ensures)

pub returns : goal.returns
returns c = behind c.args.command (map string_bytes c.args.words.now) (texts_in c.in_ok-matches.matches) c.line_of.result c.in_ok-matches.ensures c.line_of.ensures
