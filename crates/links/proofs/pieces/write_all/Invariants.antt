use Rattle.std.proofs.Common.{length, ◌-◌, ◌≡◌, ◌<◌, ◌≤◌, false, take}
use Rattle.links.specs.Pieces.{TookPieces}
use Rattle.links.proofs.pieces.write_all.Given as goal

-- The first so many bytes are taken, and nothing else changed.
abbrev pub invariant-loop-taken : goal.invariant-loop-taken
invariant-loop-taken g l = record {
  within : l.taken ≤ length l.bytes;
  took : TookPieces (g.L.Link.log l.fn.link) (g.L.Link.log l.link) (take l.taken l.bytes);
  same_left : g.L.Link.left l.link ≡ g.L.Link.left l.fn.link;
  same_end : g.L.Link.ended l.link ≡ g.L.Link.ended l.fn.link;
  not_closed : g.L.Link.closed l.link ≡ false;
  ready : 0 < l.taken → g.L.Link.blocked l.link ≡ false;
  count : g.L.Link.faults l.link ≡ g.L.Link.faults l.fn.link;
}

abbrev pub decreases-loop-taken : goal.decreases-loop-taken
decreases-loop-taken g l = length l.bytes - l.taken
