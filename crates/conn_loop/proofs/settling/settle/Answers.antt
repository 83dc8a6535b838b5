-- The buffer was filled, and sent.
use Rattle.std.proofs.Common.{List, ℕ, sym, subst}
use Rattle.conn_deferral.specs.Resting.{DealsAll}
use Rattle.conn_calls.specs.Dealing.{dealing_of, IsDealt}
use Rattle.conn_loop.specs.Settling.{FillsAll}
use Rattle.conn_loop.proofs.SettleLemmas.{settles}
use Rattle.conn_loop.proofs.settling.settle.Goals as goal

pub fill_all-requires : goal.fill_all-requires
fill_all-requires g c = record { empty = c.clear.ensures.items }

pub returns-in-Ok-clause-settles : goal.returns-in-Ok-clause-settles
returns-in-Ok-clause-settles g c =
    let old = dealing_of c.args.conn.now in
    let new = dealing_of c.fill_all.new.conn in
    let all : FillsAll IsDealt DealsAll old new c.deref.result.now = subst (FillsAll IsDealt DealsAll old new) (sym c.deref.ensures.value) c.in-Ok.ensures.fills in
    settles IsDealt DealsAll old new c.deref.result.now (g.L.Link.log c.args.link.now) (g.L.Link.log c.send_filled.new.link) (g.L.Link.faults c.args.link.now) (g.L.Link.faults c.send_filled.new.link) all c.send_filled.result c.send_filled.ensures.sends
