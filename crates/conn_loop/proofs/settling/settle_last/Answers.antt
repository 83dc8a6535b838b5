-- The same with control frames alone.
use Rattle.std.proofs.Common.{◌≤◌, List, ℕ, length, ap, sym, subst, arith}
use Rattle.h2_record.specs.Texts.{Token}
use Rattle.conn_deferral.specs.Deferred.{Dealing, Deals}
use Rattle.conn_deferral.specs.Resting.{SaysAll}
use Rattle.conn_loop.specs.Settling.{FillsAll}
use Rattle.conn_loop.proofs.SettleLemmas.{last-filled, settles}
use Rattle.conn_loop.proofs.settling.settle_last.Goals as goal

pub fill_frames-requires : goal.fill_frames-requires
fill_frames-requires g c = record { short = omega (arith, ap length c.clear.ensures.items) }

pub returns-in-Ok-clause-settles : goal.returns-in-Ok-clause-settles
returns-in-Ok-clause-settles g c left =
    let old : Dealing = record { conn = c.args.conn.now; left = left } in
    let new : Dealing = record { conn = c.fill_frames.new.conn; left = left } in
    let bytes = c.fill_frames.new.out.items in
    let filled = last-filled c.args.conn.now c.fill_frames.new.conn left c.clear.new.self.items bytes c.clear.ensures.items c.in-Ok.ensures.fills in
    let all : FillsAll Deals SaysAll old new c.deref.result.now = subst (FillsAll Deals SaysAll old new) (sym c.deref.ensures.value) filled in
    settles Deals SaysAll old new c.deref.result.now (g.L.Link.log c.args.link.now) (g.L.Link.log c.send_filled.new.link) (g.L.Link.faults c.args.link.now) (g.L.Link.faults c.send_filled.new.link) all c.send_filled.result c.send_filled.ensures.sends
