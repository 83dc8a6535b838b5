-- The payload is counted and given back to the connection.
use Rattle.std.proofs.Common.{◌≡◌, None, refl, sym, ap, subst, ◌∙◌}
use Rattle.h2_frames.specs.declared.frame.Frame.TheVariants as frames
use Rattle.h2_conn.specs.Held.{Held}
use Rattle.h2_record.specs.Live.{is_idle_above}
use Rattle.h2_conn.specs.Taking.{Settled, early_of, Fails}
use Rattle.h2_record.specs.Early.{late_fault}
use Rattle.h2_record.proofs.FaultLemmas.{body-begun}
use Rattle.h2_conn.proofs.FloodLemmas.{fails-flood}
use Rattle.h2_conn.proofs.BodySteps.{counts-body}
use Rattle.h2_conn.proofs.conn.Conn.take_body.Goals as goal

pub serve_body-requires-clause-begun : goal.serve_body-requires-clause-begun
serve_body-requires-clause-begun c =
    let held = c.args.self.now in
    ap (λ (h : Held). is_idle_above h.streams.last c.args.stream) c.self.view_is ∙ body-begun held.has_begun held.block held.streams.last c.args.stream c.args.end c.args.bytes c.args.counted c.requires.early

pub returns-in-Err : goal.returns-in-Err
unfolding late_fault
returns-in-Err c = λ r s.
    let frame = frames.Body c.args.stream c.args.end c.args.bytes c.args.counted in
    subst (λ (h : Held). Fails r frame c.in-Err.fault h) c.self.view_is
    (fails-flood _ r frame c.in-Err.fault (subst (λ (h : Held). Settled h r) (sym c.self.view_is) s) (subst (λ (h : Held). early_of h frame ≡ None) (sym c.self.view_is) c.requires.early) refl c.in-Err.ensures)

pub returns-in_ok-taken-in-Ok : goal.returns-in_ok-taken-in-Ok
returns-in_ok-taken-in-Ok c = λ r s.
    let frame = frames.Body c.args.stream c.args.end c.args.bytes c.args.counted in
    c.in_ok-taken-in-Ok.ensures r (rw c.in_ok-push_credit-in-Ok.ensures.items
    (counts-body _ r c.args.stream c.args.counted c.in-Ok.flood c.args.end c.args.bytes (subst (λ (h : Held). Settled h r) (sym c.self.view_is) s)
    (subst (λ (h : Held). early_of h frame ≡ None) (sym c.self.view_is) c.requires.early) c.in-Ok.ensures.0 c.in-Ok.ensures.1))
