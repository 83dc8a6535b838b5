-- All roots were read.
use Rattle.std.proofs.Common.{arith}
use Rattle.drill.proofs.RootLemmas.{all_read}
use Rattle.drill.proofs.roots.read_roots.Goals as goal

pub returns : goal.returns
returns c =
    all_read c.args.table.now.columns c.args.table.now.entries c.args.session c.loop-node.node c.loop-node.rows c.requires
    (omega (arith, c.loop-node-test.false, c.loop-node.invariant.1, c.in_ok-roots.ensures)) c.loop-node.invariant.0
