use Rattle.std.proofs.lemmas.Result.{err_from_is_err_and}
use Rattle.command_line.proofs.LineLemmas.{no_drill}
use Rattle.command_line.proofs.lines.drill_line.Goals as goal

pub returns-in_err-only_number : goal.returns-in_err-only_number
returns-in_err-only_number c =
    let p = err_from_is_err_and c.from_residual.result c.from_residual.ensures.1 in
    rw (p.1, p.2) (no_drill c.args.matches.now _ c.in_err-only_number.field-0.0 c.values_of.ensures c.in_err-only_number.ensures)
