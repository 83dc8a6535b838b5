-- The stream is gone.
use Rattle.h2_conn.proofs.WithinOut.{within-closed}
use Rattle.h2_conn.proofs.conn.Conn.close.Goals as goal

pub invariant_of-self : goal.invariant_of-self
invariant_of-self c =
    let i = c.self.inside in
    within-closed i.initial i.flood i.streams c.reset.new.self i.control.items i.block i.owed c.self.invariant c.args.id c.args.by_server c.reset.ensures
