use Rattle.std.proofs.Common.{◌≡◌, ◌<◌, ◌≤◌, ◌-◌, length, ap, ◌∙◌, arith}
use Rattle.h2_frames.specs.Header.{header_of, header_len}
use Rattle.h2_frames.specs.Reading.{need_of}
use Rattle.h2_frames.proofs.HeldLemmas.{need-header, need-payload}
use Rattle.h2_frames.proofs.reader.FrameReader.need.Goals as goal

pub returns-in-Err : goal.returns-in-Err
returns-in-Err c =
    let short : length c.self.inside.front.items < header_len = rw (← c.deref.ensures.value) c.in-Err.ensures in
    let n : c.len-in-Err.result ≡ length c.self.inside.front.items = omega (arith, c.len-in-Err.ensures, c.deref.ensures.len, ap length c.deref.ensures.value) in
    rw n (need-header _ _ _ c.self.invariant c.if-not-self.false short ∙ ap need_of c.self.view_is)

pub returns-in-Ok : goal.returns-in-Ok
returns-in-Ok c =
    let whole : header_len ≤ length c.self.inside.front.items = rw (← c.deref.ensures.value) c.in-Ok.ensures.0 in
    let header : c.in-Ok.header ≡ header_of c.self.inside.front.items = c.in-Ok.ensures.1 ∙ ap header_of c.deref.ensures.value in
    let n : c.len-in-Ok.result ≡ length c.self.inside.payload.items = omega (arith, c.len-in-Ok.ensures, c.self.inside.payload.ok) in
    rw (n, header) (need-payload _ _ _ c.self.invariant c.if-not-self.false whole ∙ ap need_of c.self.view_is)
