-- The window grows, or would pass the greatest.
use Rattle.std.proofs.Common.{◌≡◌, None, sym, subst}
use Rattle.h2_frames.specs.declared.frame.Frame.TheVariants as frames
use Rattle.h2_conn.specs.Held.{Held}
use Rattle.h2_conn.specs.Taking.{Settled, early_of}
use Rattle.h2_conn.proofs.WindowSteps.{takes-connection, fails-connection}
use Rattle.h2_conn.proofs.conn.Conn.take_connection_window.Goals as goal
use Rattle.h2_conn.proofs.conn.Conn.take_connection_window.Goals.{in-Ok, in-Err}

pub returns : goal.returns
returns c = λ r s.
    let frame = frames.Window 0 c.args.add in
    let settled = subst (λ (h : Held). Settled h r) (sym c.self.view_is) s in
    let early = subst (λ (h : Held). early_of h frame ≡ None) (sym c.self.view_is) c.requires in
    elim c.match-grant.branch [
      | in-Ok w ↦ rw w.result-is (takes-connection _ r c.args.add c.grant.new.self settled early w.in-Ok.ensures.0 w.in-Ok.ensures.1)
      | in-Err w ↦ rw w.result-is (fails-connection _ r c.args.add c.grant.new.self settled early w.in-Err.ensures.0)
    ]
