-- What the drain gives are the rows of the session.
use Rattle.drill.proofs.LastLemmas.{has_drained}
use Rattle.drill.proofs.drills.drain_by.Goals as goal

pub returns-clause-drawn : goal.returns-clause-drawn
returns-clause-drawn g c =
    has_drained c.args.pass.fixed c.args.pass.number c.args.session c.args.moves.now c.args.pass c.drain-pass.result.0 c.drain-pass.result.1 c.rows_in-rows.result
    c.requires.begun c.requires.some c.drain-pass.ensures.went c.drain-pass.ensures.drains c.rows_in-rows.ensures
