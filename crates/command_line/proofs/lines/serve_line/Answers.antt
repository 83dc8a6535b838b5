use Rattle.std.proofs.lemmas.Result.{err_from_is_err_and}
use Rattle.command_line.proofs.LineLemmas.{no_connections, no_workers}
use Rattle.command_line.proofs.lines.serve_line.Goals as goal

pub returns-in_err-workers : goal.returns-in_err-workers
returns-in_err-workers c =
    let p = err_from_is_err_and c.from_residual-in_err-workers.result c.from_residual-in_err-workers.ensures.1 in
    rw (p.1, p.2) (no_workers c.args.matches.now _ c.in_err-workers.field-0.0 c.values_of-2.ensures c.in_err-workers.ensures)

pub returns-in_err-connections : goal.returns-in_err-connections
returns-in_err-connections c =
    let p = err_from_is_err_and c.from_residual-in_err-connections.result c.from_residual-in_err-connections.ensures.1 in
    rw (p.1, p.2) (no_connections c.args.matches.now _ c.in_err-connections.field-0.0 c.values_of-3.ensures c.in_err-connections.ensures)
