-- By the state of the stream.
use Rattle.std.proofs.Common.{sym, ap, subst, ◌∙◌}
use Rattle.h2_frames.specs.declared.frame.Frame.TheVariants as frames
use Rattle.h2_streams.specs.Book.{state_in}
use Rattle.h2_streams.specs.declared.stream.StreamState.TheVariants as is
use Rattle.h2_conn.specs.Held.{Held}
use Rattle.h2_record.specs.Refusals.{body_refusal}
use Rattle.h2_record.specs.Windows.{receive_window_of}
use Rattle.h2_conn.specs.Counting.{CountedBody}
use Rattle.h2_conn.proofs.StateLemmas.{state-settled, state-ended}
use Rattle.h2_conn.proofs.BodySteps.{takes-body-reset, takes-body-passed, takes-body-late}
use Rattle.h2_conn.proofs.conn.Conn.serve_body.Goals as goal

pub returns-in_ok-refuse-in-Ended : goal.returns-in_ok-refuse-in-Ended
returns-in_ok-refuse-in-Ended c = λ r b.
    let held = c.args.self.now in
    let state = sym (state-settled held.streams held.answers r c.args.stream b.counted.streams) ∙ ap (λ (h : Held). state_in h.streams c.args.stream) (sym c.self.view_is) ∙ sym c.state_of.ensures ∙ c.in-Ended.is in
    takes-body-reset r c.args.stream c.args.counted c.args.end c.args.bytes held c.refuse.new.self 5 b (state-ended r c.args.stream state).0
    (ap (body_refusal (receive_window_of r c.args.stream) c.args.stream c.args.counted) state) c.in_ok-refuse-in-Ended.ensures

pub returns-then-reset_by_server : goal.returns-then-reset_by_server
returns-then-reset_by_server c = λ r b.
    let held = c.args.self.now in
    let state = sym (state-settled held.streams held.answers r c.args.stream b.counted.streams) ∙ ap (λ (h : Held). state_in h.streams c.args.stream) (sym c.self.view_is) ∙ sym c.state_of.ensures ∙ c.in-Closed.is in
    takes-body-passed r c.args.stream c.args.counted c.args.end c.args.bytes held b (state ∙ ap is.Closed c.if-reset_by_server.true)

pub returns-in_ok-reset-in-Closed : goal.returns-in_ok-reset-in-Closed
returns-in_ok-reset-in-Closed c = λ r b.
    let frame = frames.Body c.args.stream c.args.end c.args.bytes c.args.counted in
    let counted = subst (λ (h : Held). CountedBody h r frame) (sym c.self.view_is) b in
    let state = sym (state-settled c.self.inside.streams c.self.inside.answers r c.args.stream counted.counted.streams) ∙ sym c.state_of.ensures ∙ c.in-Closed.is in
    takes-body-late r c.args.stream c.args.counted c.args.end c.args.bytes _ c.reset.new.self counted (state ∙ ap is.Closed c.if-reset_by_server.false) c.in_ok-reset-in-Closed.ensures.ok
