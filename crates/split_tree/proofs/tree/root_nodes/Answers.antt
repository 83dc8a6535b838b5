-- Each root is put behind those before it.
use Rattle.std.proofs.Common.{arith}
use Rattle.split_tree.proofs.Roots.{roots-push, roots-made}
use Rattle.split_tree.proofs.tree.root_nodes.Goals as goal

pub loop-i-preserved : goal.loop-i-preserved
loop-i-preserved c = (
  roots-push c.args.at c.args.roots c.loop-i.i c.loop-i.nodes.items c.push.new.self.items c.unsplit.result c.bound.result c.bound-in-loop-i.result
      c.loop-i.invariant.0 c.in_ok-push.ensures.items c.unsplit.ensures c.bound.ensures c.bound-in-loop-i.ensures,
  omega (arith, c.loop-i-test.true),
)

pub returns : goal.returns
returns c = roots-made c.args.at c.args.roots c.loop-i.i c.loop-i.nodes.items c.loop-i.invariant.0 c.loop-i.invariant.1 (omega (arith, c.loop-i-test.false))
