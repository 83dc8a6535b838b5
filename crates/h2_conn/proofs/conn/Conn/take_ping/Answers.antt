-- PING is one of the frames that ask for nothing, and is answered.
use Rattle.std.proofs.Common.{◌≡◌, false, [], ◌∷◌, None, refl, sym, subst}
use Rattle.h2_frames.specs.declared.frame.Frame.TheVariants as frames
use Rattle.h2_record.specs.declared.control.Control.TheVariants as control
use Rattle.h2_conn.specs.Held.{Held}
use Rattle.h2_conn.specs.Taking.{Settled, early_of, Fails}
use Rattle.h2_record.specs.Early.{late_fault}
use Rattle.h2_conn.proofs.FloodLemmas.{fails-flood, sound-flood, count-flood}
use Rattle.h2_conn.proofs.QuietLemmas.{Ping, takes-quiet}
use Rattle.h2_conn.proofs.conn.Conn.take_ping.Goals as goal

pub returns-in-Err : goal.returns-in-Err
unfolding late_fault
returns-in-Err c = λ r s.
    let frame = frames.Ping false c.args.octets in
    subst (λ (h : Held). Fails r frame c.in-Err.fault h) c.self.view_is
    (fails-flood _ r frame c.in-Err.fault (subst (λ (h : Held). Settled h r) (sym c.self.view_is) s) (subst (λ (h : Held). early_of h frame ≡ None) (sym c.self.view_is) c.requires) refl c.in-Err.ensures)

pub returns-in_ok-push_back-in-Ok : goal.returns-in_ok-push_back-in-Ok
unfolding late_fault
returns-in_ok-push_back-in-Ok c = λ r s.
    let frame = frames.Ping false c.args.octets in
    let settled = subst (λ (h : Held). Settled h r) (sym c.self.view_is) s in
    let early = subst (λ (h : Held). early_of h frame ≡ None) (sym c.self.view_is) c.requires in
    rw c.in_ok-push_back-in-Ok.ensures.items
    (takes-quiet _ r frame (control.Pong c.args.octets ∷ []) c.in-Ok.flood (Ping false c.args.octets) settled (sound-flood _ r frame settled early refl c.in-Ok.ensures.0) refl (count-flood _ r frame c.in-Ok.flood settled c.in-Ok.ensures.1))
