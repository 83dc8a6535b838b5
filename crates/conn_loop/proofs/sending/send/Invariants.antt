use Rattle.std.proofs.Common.{◌≡◌, false, ◌<◌, length, take}
use Rattle.links.specs.Pieces.{TookPieces}
use Rattle.conn_loop.proofs.sending.send.Given as goal

-- The first so many bytes are taken, and not all.
abbrev pub invariant-loop : goal.invariant-loop
invariant-loop g l = record {
  can_next : (goal.iterator-loop g).can_next l.iterator';
  is_finite : (goal.iterator-loop g).is_finite l.iterator';
  within : l.taken < length l.bytes;
  took : TookPieces (g.L.Link.log l.fn.link) (g.L.Link.log l.link) (take l.taken l.bytes);
  same_left : g.L.Link.left l.link ≡ g.L.Link.left l.fn.link;
  same_end : g.L.Link.ended l.link ≡ g.L.Link.ended l.fn.link;
  not_closed : g.L.Link.closed l.link ≡ false;
  count : g.L.Link.faults l.link ≡ g.L.Link.faults l.fn.link;
}
