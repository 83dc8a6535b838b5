-- By whether the stream lives, and by what was heard.
use Rattle.std.proofs.Common.{Bool, true, None, Some, sym, ap, subst, ◌∙◌, if◌then◌else◌}
use Rattle.h2_frames.specs.declared.frame.Frame.TheVariants as frames
use Rattle.h2_record.specs.declared.event.Event.TheVariants as event
use Rattle.h2_conn.specs.declared.whole_block.BlockTold.{BlockTold}
use Rattle.h2_streams.specs.Book.{find}
use Rattle.std.specs.Option.{is_some}
use Rattle.h2_conn.specs.WholeBlock.{Tells}
use Rattle.h2_conn.specs.Held.{Held}
use Rattle.h2_conn.specs.Taking.{Takes}
use Rattle.h2_conn.proofs.StreamSteps.{live-in}
use Rattle.h2_conn.proofs.ContinuationSteps.{takes-closed, takes-told, takes-bad}
use Rattle.h2_conn.proofs.conn.Conn.serve_block.Goals as goal

pub returns-then-not-is_live : goal.returns-then-not-is_live
returns-then-not-is_live c = λ r fragment block b tells whole same late.
    let held = c.args.self.now in
    let shut = sym (live-in held.streams held.answers r c.args.stream b.counted.streams) ∙ ap (λ (h : Held). is_some (find h.streams c.args.stream)) (sym c.self.view_is) ∙ sym c.if-not-is_live.ensures in
    takes-closed r c.args.stream true fragment held b shut

pub returns-in-Tells : goal.returns-in-Tells
returns-in-Tells c = λ r fragment block b tells whole same late.
    let held = c.args.self.now in
    let live = sym (live-in held.streams held.answers r c.args.stream b.counted.streams) ∙ ap (λ (h : Held). is_some (find h.streams c.args.stream)) (sym c.self.view_is) ∙ sym c.if-not-is_live.ensures in
    takes-told r c.args.stream fragment block whole same held c.in-Tells.event b live (subst (λ (h : BlockTold). Tells r (frames.Continuation c.args.stream true fragment) (Some h)) c.in-Tells.is tells)

pub returns-then-is_late : goal.returns-then-is_late
returns-then-is_late c = λ r fragment block b tells whole same late.
    let held = c.args.self.now in
    let frame = frames.Continuation c.args.stream true fragment in
    let live = sym (live-in held.streams held.answers r c.args.stream b.counted.streams) ∙ ap (λ (h : Held). is_some (find h.streams c.args.stream)) (sym c.self.view_is) ∙ sym c.if-not-is_live.ensures in
    subst (λ (l : Bool). Takes r frame (if l then Some (event.Reset c.args.stream 1) else None) c.refuse.new.self) (late ∙ c.if-is_late.true)
    (takes-bad r c.args.stream fragment block whole same held c.refuse.new.self b live (subst (λ (h : BlockTold). Tells r frame (Some h)) c.in-Malformed.is tells) c.in_ok-refuse-in-Malformed.ensures)

pub returns-else-is_late : goal.returns-else-is_late
returns-else-is_late c = λ r fragment block b tells whole same late.
    let held = c.args.self.now in
    let frame = frames.Continuation c.args.stream true fragment in
    let live = sym (live-in held.streams held.answers r c.args.stream b.counted.streams) ∙ ap (λ (h : Held). is_some (find h.streams c.args.stream)) (sym c.self.view_is) ∙ sym c.if-not-is_live.ensures in
    subst (λ (l : Bool). Takes r frame (if l then Some (event.Reset c.args.stream 1) else None) c.refuse.new.self) (late ∙ c.if-is_late.false)
    (takes-bad r c.args.stream fragment block whole same held c.refuse.new.self b live (subst (λ (h : BlockTold). Tells r frame (Some h)) c.in-Malformed.is tells) c.in_ok-refuse-in-Malformed.ensures)
