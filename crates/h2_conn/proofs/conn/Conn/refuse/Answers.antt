-- The stream is gone, and the others are as they were.
use Rattle.std.proofs.Common.{ap}
use Rattle.h2_streams.specs.Book.{Book}
use Rattle.h2_conn.proofs.WithinLemmas.{within-removed}
use Rattle.h2_conn.proofs.conn.Conn.refuse.Goals as goal

pub invariant_of-self : goal.invariant_of-self
invariant_of-self c =
    let i = c.self.inside in
    within-removed i.initial i.flood i.streams c.reset_live.new.streams i.control.items i.block i.owed c.self.invariant c.args.stream
    (ap (λ (b : Book). b.live) c.reset_live.ensures.streams) (ap (λ (b : Book). b.last) c.reset_live.ensures.streams)

pub invariant_of-self-2 : goal.invariant_of-self-2
invariant_of-self-2 c =
    let i = c.self.inside in
    within-removed i.initial i.flood i.streams c.reset_live.new.streams i.control.items i.block i.owed c.self.invariant c.args.stream
    (ap (λ (b : Book). b.live) c.reset_live.ensures.streams) (ap (λ (b : Book). b.last) c.reset_live.ensures.streams)
