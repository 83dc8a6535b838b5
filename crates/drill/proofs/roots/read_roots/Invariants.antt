-- The rows of the roots so far.
use Rattle.std.proofs.Common.{◌≤◌}
use Rattle.drill.specs.Roots.{HasRead}
use Rattle.drill.proofs.roots.read_roots.Given as goal

abbrev pub invariant-loop-node : goal.invariant-loop-node
invariant-loop-node l = HasRead l.table.entries l.session l.node l.rows × (l.node ≤ l.roots)
