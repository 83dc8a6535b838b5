use Rattle.std.proofs.Common.{rules}
use Rattle.turn_table.specs.Rule.{meaning}
use Rattle.turn_table.proofs.RuleLemmas.{publishes}
use Rattle.turn_table.proofs.steps.publish.Goals as goal

pub fetch_add-requires : goal.fetch_add-requires
fetch_add-requires g c = let k = meaning g.M.Machine.history g.M.Machine.fixed g.M.Machine.caller_of g.M.Machine.takes g.M.Machine.allows in
    (search rules, search rules, publishes k (g.M.Machine.fixed c.args.top.now.key.value) _ _ _ g.N.Told.told c.args.added c.requires.told)
