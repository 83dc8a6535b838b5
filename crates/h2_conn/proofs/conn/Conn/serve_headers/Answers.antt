-- By the state of the id.
use Rattle.std.proofs.Common.{None, sym, ap, subst, ◌∙◌}
use Rattle.h2_frames.specs.declared.frame.Frame.TheVariants as frames
use Rattle.h2_streams.specs.Book.{state_in}
use Rattle.h2_streams.specs.declared.stream.StreamState.TheVariants as is
use Rattle.h2_conn.specs.Held.{Held}
use Rattle.h2_conn.specs.Taking.{Takes}
use Rattle.h2_conn.proofs.StateLemmas.{state-settled}
use Rattle.h2_conn.proofs.HeaderSteps.{takes-headers-ended, takes-headers-passed, takes-headers-late}
use Rattle.h2_conn.proofs.conn.Conn.serve_headers.Goals as goal

pub returns-in_ok-refuse-in-Ended : goal.returns-in_ok-refuse-in-Ended
returns-in_ok-refuse-in-Ended c = λ r whole fragment b tells.
    let held = c.args.self.now in
    let state = sym (state-settled held.streams held.answers r c.args.stream b.counted.streams) ∙ ap (λ (h : Held). state_in h.streams c.args.stream) (sym c.self.view_is) ∙ sym c.state_of.ensures ∙ c.in-Ended.is in
    takes-headers-ended r c.args.stream c.args.ended whole fragment held c.refuse.new.self b state c.in_ok-refuse-in-Ended.ensures

pub returns-then-reset_by_server : goal.returns-then-reset_by_server
returns-then-reset_by_server c = λ r whole fragment b tells.
    let held = c.args.self.now in
    let state = sym (state-settled held.streams held.answers r c.args.stream b.counted.streams) ∙ ap (λ (h : Held). state_in h.streams c.args.stream) (sym c.self.view_is) ∙ sym c.state_of.ensures ∙ c.in-Closed.is in
    takes-headers-passed r c.args.stream c.args.ended whole fragment held b (state ∙ ap is.Closed c.if-reset_by_server.true)

pub returns-in_ok-refuse_late-in-Closed : goal.returns-in_ok-refuse_late-in-Closed
returns-in_ok-refuse_late-in-Closed c = λ r whole fragment b tells.
    let held = c.args.self.now in
    let late = c.in_ok-refuse_late-in-Closed.ensures in
    let state = sym (state-settled held.streams held.answers r c.args.stream b.counted.streams) ∙ ap (λ (h : Held). state_in h.streams c.args.stream) (sym c.self.view_is) ∙ sym c.state_of.ensures ∙ c.in-Closed.is in
    subst (λ (h : Held). Takes r (frames.Headers c.args.stream c.args.ended whole fragment) None h) (sym late.rest)
    (takes-headers-late r c.args.stream c.args.ended whole fragment held c.refuse_late.new.self.answers b (state ∙ ap is.Closed c.if-reset_by_server.false) late.answers)
