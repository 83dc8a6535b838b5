-- Trailers end their stream, or reset it.
use Rattle.std.proofs.Common.{◌≡◌, Option, None, Some, sym, ap, subst, ◌∙◌}
use Rattle.h2_frames.specs.declared.frame.Frame.TheVariants as frames
use Rattle.h2_streams.specs.Book.{state_in}
use Rattle.h2_conn.specs.declared.whole_block.BlockTold.{BlockTold}
use Rattle.h2_conn.specs.declared.whole_block.BlockTold.TheVariants as heard
use Rattle.h2_conn.specs.WholeBlock.{Tells}
use Rattle.h2_conn.specs.Held.{Held}
use Rattle.h2_conn.specs.Counting.{CountedBlock}
use Rattle.h2_conn.proofs.WithinLemmas.{within-streams}
use Rattle.h2_conn.proofs.StateLemmas.{state-settled}
use Rattle.h2_conn.proofs.WholeBlockLemmas.{Unfinished, Telling}
use Rattle.h2_conn.proofs.HeaderSteps.{takes-headers-malformed, takes-trailers}
use Rattle.h2_conn.proofs.conn.Conn.trail.Goals as goal

pub invariant_of-self : goal.invariant_of-self
invariant_of-self c =
    let i = c.self.inside in
    within-streams i.initial i.flood i.streams c.trail.new.streams i.control.items i.block i.owed i.owed c.self.invariant (c.trail.ensures.near i.initial c.self.invariant.near) c.trail.ensures.last c.self.invariant.credit

pub invariant_of-self-in-None : goal.invariant_of-self-in-None
invariant_of-self-in-None c =
    let i = c.self-in-None.inside in
    within-streams i.initial i.flood i.streams c.trail-in-None.new.streams i.control.items i.block i.owed i.owed c.self-in-None.invariant (c.trail-in-None.ensures.near i.initial c.self-in-None.invariant.near) c.trail-in-None.ensures.last c.self-in-None.invariant.credit

pub returns-in_ok-refuse-in-Some-Malformed : goal.returns-in_ok-refuse-in-Some-Malformed
returns-in_ok-refuse-in-Some-Malformed c = λ r whole fragment b tells.
    let held = c.args.self.now in
    let frame = frames.Headers c.args.stream c.args.ended whole fragment in
    let state = sym (state-settled held.streams held.answers r c.args.stream b.counted.streams) ∙ c.requires.live in
    let same : c.args.told ≡ Some heard.Malformed = cc in
    takes-headers-malformed r c.args.stream c.args.ended whole fragment held c.refuse.new.self b state (subst (λ (h : Option BlockTold). Tells r frame h) same tells) c.in_ok-refuse-in-Some-Malformed.ensures

pub returns-in-Some-Tells : goal.returns-in-Some-Tells
returns-in-Some-Tells c = λ r whole fragment b tells.
    let frame = frames.Headers c.args.stream c.args.ended whole fragment in
    let counted = subst (λ (h : Held). CountedBlock h r frame) (sym c.self.view_is) b in
    let state = sym (state-settled c.self.inside.streams c.self.inside.answers r c.args.stream counted.counted.streams) ∙ ap (λ (h : Held). state_in h.streams c.args.stream) c.self.view_is ∙ c.requires.live in
    let same : c.args.told ≡ Some (heard.Tells c.in-Some-Tells.event) = cc in
    takes-trailers r c.args.stream c.args.ended whole fragment _ c.trail.new.streams c.trail.new.kept (Some (heard.Tells c.in-Some-Tells.event)) counted state (Telling c.in-Some-Tells.event)
    (subst (λ (h : Option BlockTold). Tells r frame h) same tells) c.trail.ensures.ends c.trail.ensures.kept

pub returns-in-None : goal.returns-in-None
returns-in-None c = λ r whole fragment b tells.
    let frame = frames.Headers c.args.stream c.args.ended whole fragment in
    let counted = subst (λ (h : Held). CountedBlock h r frame) (sym c.self-in-None.view_is) b in
    let state = sym (state-settled c.self-in-None.inside.streams c.self-in-None.inside.answers r c.args.stream counted.counted.streams) ∙ ap (λ (h : Held). state_in h.streams c.args.stream) c.self-in-None.view_is ∙ c.requires.live in
    takes-trailers r c.args.stream c.args.ended whole fragment _ c.trail-in-None.new.streams c.trail-in-None.new.kept None counted state Unfinished
    (subst (λ (h : Option BlockTold). Tells r frame h) c.in-None.is tells) c.trail-in-None.ensures.ends c.trail-in-None.ensures.kept
