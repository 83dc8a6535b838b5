-- RST_STREAM closes its stream, where that lives.
use Rattle.std.proofs.Common.{◌≡◌, None, refl, sym, ap, subst}
use Rattle.h2_frames.specs.declared.frame.Frame.TheVariants as frames
use Rattle.h2_streams.specs.Book.{Book}
use Rattle.h2_conn.specs.Held.{Held}
use Rattle.h2_conn.specs.Taking.{Settled, early_of, Fails}
use Rattle.h2_record.specs.Early.{late_fault}
use Rattle.h2_conn.proofs.FloodLemmas.{fails-flood}
use Rattle.h2_conn.proofs.WithinLemmas.{within-removed, within-flood}
use Rattle.h2_conn.proofs.StreamSteps.{takes-reset-shut, takes-cancel}
use Rattle.h2_conn.proofs.conn.Conn.take_reset.Goals as goal

pub returns-in-Err : goal.returns-in-Err
unfolding late_fault
returns-in-Err c = λ r s.
    let frame = frames.Reset c.args.stream c.args.code in
    subst (λ (h : Held). Fails r frame c.in-Err.fault h) c.self.view_is
    (fails-flood _ r frame c.in-Err.fault (subst (λ (h : Held). Settled h r) (sym c.self.view_is) s) (subst (λ (h : Held). early_of h frame ≡ None) (sym c.self.view_is) c.requires) refl c.in-Err.ensures)

pub returns-then-not-is_live : goal.returns-then-not-is_live
returns-then-not-is_live c = λ r s.
    let frame = frames.Reset c.args.stream c.args.code in
    takes-reset-shut _ r c.args.stream c.args.code c.in-Ok.flood (subst (λ (h : Held). Settled h r) (sym c.self.view_is) s) (subst (λ (h : Held). early_of h frame ≡ None) (sym c.self.view_is) c.requires)
    c.in-Ok.ensures.0 c.in-Ok.ensures.1 (sym c.if-not-is_live.ensures)

pub invariant_of-self-in-Ok : goal.invariant_of-self-in-Ok
invariant_of-self-in-Ok c =
    let i = c.self.inside in
    let streams = c.cancel_live.new.streams in
    within-flood i.initial i.flood c.in-Ok.flood streams i.control.items i.block i.owed
    (within-removed i.initial i.flood i.streams streams i.control.items i.block i.owed c.self.invariant c.args.stream
    (ap (λ (b : Book). b.live) c.cancel_live.ensures.streams) (ap (λ (b : Book). b.last) c.cancel_live.ensures.streams))
    c.in-Ok.ensures.2

pub returns-else-not-is_live : goal.returns-else-not-is_live
returns-else-not-is_live c = λ r s.
    let frame = frames.Reset c.args.stream c.args.code in
    takes-cancel _ r c.args.stream c.args.code c.in-Ok.flood c.cancel_live.new.streams c.cancel_live.new.answers c.cancel_live.new.kept
    (subst (λ (h : Held). Settled h r) (sym c.self.view_is) s) (subst (λ (h : Held). early_of h frame ≡ None) (sym c.self.view_is) c.requires)
    c.in-Ok.ensures.0 c.in-Ok.ensures.1 (sym c.if-not-is_live.ensures) c.cancel_live.ensures.streams c.cancel_live.ensures.answers c.cancel_live.ensures.kept
