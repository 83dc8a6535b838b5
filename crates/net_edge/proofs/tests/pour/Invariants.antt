use Rattle.std.proofs.Common.{◌≡◌, false, is_none}
use Rattle.net_edge.proofs.tests.pour.Given as goal

-- The link isn't closed.
abbrev pub invariant-loop : goal.invariant-loop
invariant-loop l = is_none l.link.socket ≡ false
