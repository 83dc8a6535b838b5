-- A stream is opened, refused, or opened and reset.
use Rattle.std.proofs.Common.{◌≡◌, ◌==◌, Bool, false, Option, None, Some, is_some, sym, ap, subst, ◌∙◌, arith}
use Rattle.std.proofs.lemmas.Bool.Decides.{nat_tests}
use Rattle.h2_frames.specs.declared.frame.Frame.TheVariants as frames
use Rattle.h2_streams.specs.Book.{Book, state_in, find}
use Rattle.h2_conn.specs.declared.whole_block.BlockTold.{BlockTold}
use Rattle.h2_conn.specs.declared.whole_block.BlockTold.TheVariants as heard
use Rattle.h2_conn.specs.WholeBlock.{Tells}
use Rattle.h2_conn.specs.Held.{Held}
use Rattle.h2_conn.specs.Trailing.{BeginsTo}
use Rattle.h2_conn.specs.Counting.{CountedBlock}
use Rattle.h2_conn.proofs.StateLemmas.{state-settled, risen-of}
use Rattle.h2_conn.proofs.WholeBlockLemmas.{Unfinished, Telling}
use Rattle.h2_conn.proofs.OpenSteps.{takes-open, takes-refused, takes-malformed, there-opened}
use Rattle.h2_conn.proofs.conn.Conn.open.Goals as goal

pub returns-then-not-opens : goal.returns-then-not-opens
returns-then-not-opens c = λ r whole fragment b tells.
    let frame = frames.Headers c.args.stream c.args.ended whole fragment in
    let counted = subst (λ (h : Held). CountedBlock h r frame) (sym c.self.view_is) b in
    let state = sym (state-settled c.self.inside.streams c.self.inside.answers r c.args.stream counted.counted.streams) ∙ ap (λ (h : Held). state_in h.streams c.args.stream) c.self.view_is ∙ c.requires.idle in
    let begins = subst (λ (b : Bool). BeginsTo c.self.inside.streams c.args.stream c.self.inside.initial c.args.ended b c.begin.new.streams) c.if-not-opens.true c.in_ok-opens.ensures.begins in
    takes-refused _ r c.args.stream c.args.ended whole fragment counted (risen-of r c.args.stream state c.requires.odd) state c.begin.new.streams c.reset.new.self begins.0 begins.1 c.in_ok-reset.ensures.ok

pub returns-in-None : goal.returns-in-None
returns-in-None c = λ r whole fragment b tells.
    let frame = frames.Headers c.args.stream c.args.ended whole fragment in
    let counted = subst (λ (h : Held). CountedBlock h r frame) (sym c.self.view_is) b in
    let some : (0 == c.args.stream) ≡ false = grind (arith, nat_tests, c.requires.stream.some) in
    let state = sym (state-settled c.self.inside.streams c.self.inside.answers r c.args.stream counted.counted.streams) ∙ ap (λ (h : Held). state_in h.streams c.args.stream) c.self.view_is ∙ c.requires.idle in
    let begins = subst (λ (b : Bool). BeginsTo c.self.inside.streams c.args.stream c.self.inside.initial c.args.ended b c.begin.new.streams) c.if-not-opens.false c.in_ok-opens.ensures.begins in
    takes-open _ r c.args.stream c.args.ended whole fragment counted (risen-of r c.args.stream state c.requires.odd) state c.begin.new.streams None some begins.0 Unfinished
    (subst (λ (h : Option BlockTold). Tells r frame h) c.in-None.is tells) begins.1

pub returns-in-Some-Tells : goal.returns-in-Some-Tells
returns-in-Some-Tells c = λ r whole fragment b tells.
    let frame = frames.Headers c.args.stream c.args.ended whole fragment in
    let counted = subst (λ (h : Held). CountedBlock h r frame) (sym c.self.view_is) b in
    let some : (0 == c.args.stream) ≡ false = grind (arith, nat_tests, c.requires.stream.some) in
    let state = sym (state-settled c.self.inside.streams c.self.inside.answers r c.args.stream counted.counted.streams) ∙ ap (λ (h : Held). state_in h.streams c.args.stream) c.self.view_is ∙ c.requires.idle in
    let begins = subst (λ (b : Bool). BeginsTo c.self.inside.streams c.args.stream c.self.inside.initial c.args.ended b c.begin.new.streams) c.if-not-opens.false c.in_ok-opens.ensures.begins in
    let same : c.args.told ≡ Some (heard.Tells c.in-Some-Tells.event) = cc in
    takes-open _ r c.args.stream c.args.ended whole fragment counted (risen-of r c.args.stream state c.requires.odd) state c.begin.new.streams (Some (heard.Tells c.in-Some-Tells.event)) some begins.0 (Telling c.in-Some-Tells.event)
    (subst (λ (h : Option BlockTold). Tells r frame h) same tells) begins.1

pub refuse-requires-clause-live : goal.refuse-requires-clause-live
refuse-requires-clause-live c =
    let begins = subst (λ (b : Bool). BeginsTo c.self.inside.streams c.args.stream c.self.inside.initial c.args.ended b c.begin.new.streams) c.if-not-opens.false c.in_ok-opens.ensures.begins in
    ap (λ (b : Book). is_some (find b c.args.stream)) begins.1 ∙ there-opened c.self.inside.streams.live c.args.stream _

pub returns-in_ok-refuse-in-Some-Malformed : goal.returns-in_ok-refuse-in-Some-Malformed
returns-in_ok-refuse-in-Some-Malformed c = λ r whole fragment b tells.
    let frame = frames.Headers c.args.stream c.args.ended whole fragment in
    let counted = subst (λ (h : Held). CountedBlock h r frame) (sym c.self.view_is) b in
    let state = sym (state-settled c.self.inside.streams c.self.inside.answers r c.args.stream counted.counted.streams) ∙ ap (λ (h : Held). state_in h.streams c.args.stream) c.self.view_is ∙ c.requires.idle in
    let begins = subst (λ (b : Bool). BeginsTo c.self.inside.streams c.args.stream c.self.inside.initial c.args.ended b c.begin.new.streams) c.if-not-opens.false c.in_ok-opens.ensures.begins in
    let same : c.args.told ≡ Some heard.Malformed = cc in
    takes-malformed _ r c.args.stream c.args.ended whole fragment counted (risen-of r c.args.stream state c.requires.odd) state c.refuse.new.self c.begin.new.streams begins.0
    (subst (λ (h : Option BlockTold). Tells r frame h) same tells) begins.1 c.in_ok-refuse-in-Some-Malformed.ensures
