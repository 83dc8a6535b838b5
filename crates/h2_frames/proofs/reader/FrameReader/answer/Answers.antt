use Rattle.std.proofs.Common.{◌≡◌, ◌<◌, ◌≤◌, ◌-◌, length, sym, ap, ◌∙◌, Some, None, arith}
use Rattle.h2_frames.specs.declared.header.Header.{Header}
use Rattle.h2_frames.specs.declared.reader.Next.TheVariants as next
use Rattle.h2_frames.specs.Header.{header_of, header_len}
use Rattle.h2_frames.specs.Fault.{fault_in}
use Rattle.h2_frames.specs.Reading.{next_of, payload_next}
use Rattle.h2_frames.proofs.HeldLemmas.{next-header, next-payload, payload_next-large, payload_next-short, next-judged, after-frame}
use Rattle.h2_frames.proofs.reader.FrameReader.answer.Goals as goal

pub returns-in_default-clause-ok : goal.returns-in_default-clause-ok
returns-in_default-clause-ok c =
    let short : length c.self.inside.front.items < header_len = rw (← c.deref-2.ensures.value) c.in_default.ensures in
    next-header _ _ _ c.self.invariant c.if-not-self.false short ∙ ap next_of c.self.view_is

pub returns-then-header-gt-MAX_FRAME_SIZE-clause-ok : goal.returns-then-header-gt-MAX_FRAME_SIZE-clause-ok
returns-then-header-gt-MAX_FRAME_SIZE-clause-ok c =
    let whole : header_len ≤ length c.self.inside.front.items = rw (← c.deref-2.ensures.value) c.in-Ok.ensures.0 in
    let header : c.in-Ok.header ≡ header_of c.self.inside.front.items = c.in-Ok.ensures.1 ∙ ap header_of c.deref-2.ensures.value in
    payload_next-large c.in-Ok.header c.self.inside.payload.items c.if-header-gt-MAX_FRAME_SIZE.true
    ∙ ap (λ (h : Header). payload_next h c.self.inside.payload.items) header
    ∙ next-payload _ _ _ c.self.invariant c.if-not-self.false whole ∙ ap next_of c.self.view_is

pub returns-then-len-header-clause-ok : goal.returns-then-len-header-clause-ok
returns-then-len-header-clause-ok c =
    let whole : header_len ≤ length c.self.inside.front.items = rw (← c.deref-2.ensures.value) c.in-Ok.ensures.0 in
    let header : c.in-Ok.header ≡ header_of c.self.inside.front.items = c.in-Ok.ensures.1 ∙ ap header_of c.deref-2.ensures.value in
    payload_next-short c.in-Ok.header c.self.inside.payload.items c.if-header-gt-MAX_FRAME_SIZE.false (omega (arith, c.len.ensures, c.self.inside.payload.ok))
    ∙ ap (λ (h : Header). payload_next h c.self.inside.payload.items) header
    ∙ next-payload _ _ _ c.self.invariant c.if-not-self.false whole ∙ ap next_of c.self.view_is

pub returns-in-Some-clause-ok : goal.returns-in-Some-clause-ok
returns-in-Some-clause-ok c =
    let whole : header_len ≤ length c.self.inside.front.items = rw (← c.deref-2.ensures.value) c.in-Ok.ensures.0 in
    let header : c.in-Ok.header ≡ header_of c.self.inside.front.items = c.in-Ok.ensures.1 ∙ ap header_of c.deref-2.ensures.value in
    let found : fault_in c.in-Ok.header c.self.inside.payload.items ≡ Some c.in-Some.fault =
    ap (fault_in c.in-Ok.header) (sym c.deref-3.ensures.value) ∙ sym c.fault_in.ensures ∙ c.in-Some.is in
    next-judged _ _ _ c.in-Ok.header (Some c.in-Some.fault) c.self.invariant c.if-not-self.false whole header c.if-header-gt-MAX_FRAME_SIZE.false
    (omega (arith, c.if-len-header.false, c.len.ensures, c.self.inside.payload.ok)) found
    ∙ ap next_of c.self.view_is

pub returns-clause-ok : goal.returns-clause-ok
returns-clause-ok c =
    let whole : header_len ≤ length c.self.inside.front.items = rw (← c.deref-2.ensures.value) c.in-Ok.ensures.0 in
    let header : c.in-Ok.header ≡ header_of c.self.inside.front.items = c.in-Ok.ensures.1 ∙ ap header_of c.deref-2.ensures.value in
    let found : fault_in c.in-Ok.header c.self.inside.payload.items ≡ None =
    ap (fault_in c.in-Ok.header) (sym c.deref-3.ensures.value) ∙ sym c.fault_in.ensures ∙ c.in_default-fault_in.is in
    ap next.Frame c.in_ok-frame.ensures.ok
    ∙ next-judged _ _ _ c.in-Ok.header None c.self.invariant c.if-not-self.false whole header c.if-header-gt-MAX_FRAME_SIZE.false
    (omega (arith, c.if-len-header.false, c.len.ensures, c.self.inside.payload.ok)) found
    ∙ ap next_of c.self.view_is

pub returns-clause-after : goal.returns-clause-after
returns-clause-after c =
    let whole : header_len ≤ length c.self.inside.front.items = rw (← c.deref-2.ensures.value) c.in-Ok.ensures.0 in
    let header : c.in-Ok.header ≡ header_of c.self.inside.front.items = c.in-Ok.ensures.1 ∙ ap header_of c.deref-2.ensures.value in
    after-frame c.self.inside.started c.self.inside.front.items c.self.inside.payload.items c.in-Ok.header _ _ c.args.self.now c.self.invariant c.if-not-self.false whole header
    (omega (arith, c.if-len-header.false, c.len.ensures, c.self.inside.payload.ok)) c.clear.ensures.items c.clear-2.ensures.items c.self.view_is
