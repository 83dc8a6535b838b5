use Rattle.std.proofs.Common.{◌≡◌, ◌<◌, false, is_none, length}
use Rattle.net_edge.proofs.tests.hear.Given as goal

-- The link isn't closed.
abbrev pub invariant-loop : goal.invariant-loop
invariant-loop g l =
    (goal.iterator-loop g).can_next l.iterator' × (goal.iterator-loop g).is_finite l.iterator' × (is_none l.link.socket ≡ false) × (0 < length l.into)
