-- The payload is taken, or the stream is reset.
use Rattle.std.proofs.Common.{sym, ap, subst, ◌∙◌}
use Rattle.h2_frames.specs.declared.frame.Frame.TheVariants as frames
use Rattle.h2_streams.specs.Book.{state_in}
use Rattle.h2_conn.specs.Held.{Held}
use Rattle.h2_conn.specs.Counting.{CountedBody}
use Rattle.h2_conn.proofs.WithinLemmas.{within-streams, owed-small}
use Rattle.h2_conn.proofs.StateLemmas.{state-settled}
use Rattle.h2_conn.proofs.BodySteps.{takes-body-over, takes-body-ended, takes-body-going}
use Rattle.h2_conn.proofs.conn.Conn.serve_live.Goals as goal

pub returns-then-not-pay : goal.returns-then-not-pay
returns-then-not-pay c = λ r b.
    let frame = frames.Body c.args.stream c.args.end c.args.bytes c.args.counted in
    let counted = subst (λ (h : Held). CountedBody h r frame) (sym c.self.view_is) b in
    let state = sym (state-settled c.self.inside.streams c.self.inside.answers r c.args.stream counted.counted.streams) ∙ ap (λ (h : Held). state_in h.streams c.args.stream) c.self.view_is ∙ c.requires.live in
    takes-body-over r c.args.stream c.args.counted c.args.end c.args.bytes _ c.refuse.new.self c.pay.new.streams counted state c.if-not-pay.ensures.pays c.in_ok-refuse.ensures

pub invariant_of-self-then-end : goal.invariant_of-self-then-end
invariant_of-self-then-end c =
    let i = c.self.inside in
    within-streams i.initial i.flood i.streams c.pay.new.streams i.control.items i.block i.owed i.owed c.self.invariant (c.pay.ensures.near i.initial c.self.invariant.near) c.pay.ensures.last c.self.invariant.credit

pub returns-then-end : goal.returns-then-end
returns-then-end c = λ r b.
    let frame = frames.Body c.args.stream c.args.end c.args.bytes c.args.counted in
    let counted = subst (λ (h : Held). CountedBody h r frame) (sym c.self.view_is) b in
    let state = sym (state-settled c.self.inside.streams c.self.inside.answers r c.args.stream counted.counted.streams) ∙ ap (λ (h : Held). state_in h.streams c.args.stream) c.self.view_is ∙ c.requires.live in
    takes-body-ended r c.args.stream c.args.counted c.args.end c.args.bytes _ c.pay.new.streams c.remove.new.self counted state c.if-end.true c.if-not-pay.ensures.pays c.remove.ensures

pub invariant_of-self-2 : goal.invariant_of-self-2
invariant_of-self-2 c =
    let i = c.self.inside in
    within-streams i.initial i.flood i.streams c.pay.new.streams i.control.items i.block i.owed c.owed_if-self-inside.result c.self.invariant (c.pay.ensures.near i.initial c.self.invariant.near) c.pay.ensures.last
    (owed-small c.args.stream c.args.counted c.owed_if-self-inside.result c.owed_if-self-inside.ensures c.requires.stream.small c.requires.small)

pub returns : goal.returns
returns c = λ r b.
    let frame = frames.Body c.args.stream c.args.end c.args.bytes c.args.counted in
    let counted = subst (λ (h : Held). CountedBody h r frame) (sym c.self.view_is) b in
    let state = sym (state-settled c.self.inside.streams c.self.inside.answers r c.args.stream counted.counted.streams) ∙ ap (λ (h : Held). state_in h.streams c.args.stream) c.self.view_is ∙ c.requires.live in
    rw c.owed_if-self-inside.ensures
    (takes-body-going r c.args.stream c.args.counted c.args.end c.args.bytes _ c.pay.new.streams counted state c.if-end.false c.if-not-pay.ensures.pays)
