-- The table is closed, with what its last pass had seen.
use Rattle.std.proofs.Common.{◌∙◌}
use Rattle.drill.proofs.LastLemmas.{closed, legal_table}
use Rattle.drill.proofs.drills.finish.Goals as goal

pub drill_of-requires-clause-columns : goal.drill_of-requires-clause-columns
drill_of-requires-clause-columns g c = c.close-table.ensures.fixed ∙ c.requires.drill

pub drill_of-requires-clause-legal : goal.drill_of-requires-clause-legal
drill_of-requires-clause-legal g c = legal_table c.machine_histories_are_legal.ensures c.close-table.result c.close-table.ensures.legal

pub drill_of-requires-clause-drawn : goal.drill_of-requires-clause-drawn
drill_of-requires-clause-drawn g c =
    closed c.machine_histories_are_legal.ensures c.args.ran.pass c.close-table.result c.args.ran.session c.args.ran.drained c.close-table.ensures.reaches c.close-table.ensures.legal
    c.requires.drawn
