-- A live stream's window grows, or the stream is reset.
use Rattle.std.proofs.Common.{◌≡◌, ◌==◌, false, None, Ok, Err, sym, subst, ◌∙◌, arith}
use Rattle.std.proofs.lemmas.Bool.Decides.{nat_tests}
use Rattle.h2_frames.specs.declared.frame.Frame.TheVariants as frames
use Rattle.h2_conn.specs.Held.{Held}
use Rattle.h2_conn.specs.Taking.{Settled, early_of}
use Rattle.h2_conn.proofs.WithinLemmas.{within-grant}
use Rattle.h2_conn.proofs.StreamSteps.{live-found}
use Rattle.h2_conn.proofs.WindowSteps.{sound-window, window-within, takes-window-shut, takes-window-reset, takes-grant, grants-of, same-connection, zero-refused, over-refused}
use Rattle.h2_conn.proofs.conn.Conn.take_stream_window.Goals as goal

pub returns-then-not-is_live : goal.returns-then-not-is_live
returns-then-not-is_live c = λ r s.
    let frame = frames.Window c.args.stream c.args.add in
    let settled = subst (λ (h : Held). Settled h r) (sym c.self.view_is) s in
    let early = subst (λ (h : Held). early_of h frame ≡ None) (sym c.self.view_is) c.requires.early in
    let some : (c.args.stream == 0) ≡ false = grind (arith, nat_tests, c.requires.stream.some) in
    let here : (0 == c.args.stream) ≡ false = grind (arith, nat_tests, c.requires.stream.some) in
    takes-window-shut _ r c.args.stream c.args.add c.self.inside.window settled (sound-window _ r c.args.stream c.args.add settled early some)
    (sym (live-found _ r c.args.stream settled) ∙ sym c.if-not-is_live.ensures) (window-within _ r c.args.stream c.args.add settled early some)
    (settled.window ∙ sym (same-connection r c.args.stream c.args.add here))

pub returns-then-add-eq0 : goal.returns-then-add-eq0
returns-then-add-eq0 c = λ r s.
    let frame = frames.Window c.args.stream c.args.add in
    let settled = subst (λ (h : Held). Settled h r) (sym c.self.view_is) s in
    let early = subst (λ (h : Held). early_of h frame ≡ None) (sym c.self.view_is) c.requires.early in
    let some : (c.args.stream == 0) ≡ false = grind (arith, nat_tests, c.requires.stream.some) in
    let here : (0 == c.args.stream) ≡ false = grind (arith, nat_tests, c.requires.stream.some) in
    takes-window-reset _ c.refuse.new.self r c.args.stream c.args.add 1 settled (sound-window _ r c.args.stream c.args.add settled early some) here
    (sym (live-found _ r c.args.stream settled) ∙ sym c.if-not-is_live.ensures) (zero-refused r c.args.stream c.args.add c.if-add-eq0.true) c.in_ok-refuse.ensures

pub invariant_of-self-in-Ok : goal.invariant_of-self-in-Ok
invariant_of-self-in-Ok c =
    let i = c.self.inside in
    within-grant i.initial i.flood c.args.stream c.args.add i.streams c.grant.new.self i.control.items i.block i.owed c.self.invariant (sym c.if-not-is_live.ensures) c.in-Ok.ensures

pub returns-in-Ok : goal.returns-in-Ok
returns-in-Ok c = λ r s.
    let frame = frames.Window c.args.stream c.args.add in
    let settled = subst (λ (h : Held). Settled h r) (sym c.self.view_is) s in
    let early = subst (λ (h : Held). early_of h frame ≡ None) (sym c.self.view_is) c.requires.early in
    let some : (c.args.stream == 0) ≡ false = grind (arith, nat_tests, c.requires.stream.some) in
    let here : (0 == c.args.stream) ≡ false = grind (arith, nat_tests, c.requires.stream.some) in
    let more : (c.args.add == 0) ≡ false = grind (arith, nat_tests, c.if-add-eq0.false) in
    let live = sym (live-found _ r c.args.stream settled) ∙ sym c.if-not-is_live.ensures in
    let grants = grants-of _ c.grant.new.self r c.args.stream c.args.add (Ok tt) settled live c.in-Ok.ensures in
    takes-grant _ r c.args.stream c.args.add c.grant.new.self settled (sound-window _ r c.args.stream c.args.add settled early some) here live more grants.0 grants.1

pub returns-in_ok-refuse-in-Err : goal.returns-in_ok-refuse-in-Err
returns-in_ok-refuse-in-Err c = λ r s.
    let frame = frames.Window c.args.stream c.args.add in
    let settled = subst (λ (h : Held). Settled h r) (sym c.self.view_is) s in
    let early = subst (λ (h : Held). early_of h frame ≡ None) (sym c.self.view_is) c.requires.early in
    let some : (c.args.stream == 0) ≡ false = grind (arith, nat_tests, c.requires.stream.some) in
    let here : (0 == c.args.stream) ≡ false = grind (arith, nat_tests, c.requires.stream.some) in
    let more : (c.args.add == 0) ≡ false = grind (arith, nat_tests, c.if-add-eq0.false) in
    let live = sym (live-found _ r c.args.stream settled) ∙ sym c.if-not-is_live.ensures in
    let grants = grants-of _ c.grant.new.self r c.args.stream c.args.add (Err c.in-Err.field-0) settled live c.in-Err.ensures in
    takes-window-reset _ c.refuse-in-Err.new.self r c.args.stream c.args.add 3 settled (sound-window _ r c.args.stream c.args.add settled early some) here
    live (over-refused r c.args.stream c.args.add more grants.0) (rw (← grants.2) c.in_ok-refuse-in-Err.ensures)
