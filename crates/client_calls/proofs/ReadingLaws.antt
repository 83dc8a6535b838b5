-- A reader of the bytes finds no broken rule of framing, wherever it stands.
use Rattle.std.proofs.Common.{◌≡◌, ℕ, Bool, true, false, List, [], ◌∷◌, ◌++◌, refl, sym, ap, subst, ◌∙◌, append_assoc, append-nil}
use Rattle.std.specs.Prelude.{nat_eq}
use Rattle.std.specs.List.{starts_with}
use Rattle.std.proofs.lemmas.Bool.Decides.{Decides-eqb}
use Rattle.std.proofs.lemmas.List.{append_cancel_left}
use Rattle.std.proofs.lemmas.Slice.Eq.{starts_is}
use Rattle.h2_frames.specs.declared.fault.H2Fault.{H2Fault}
use Rattle.h2_frames.specs.declared.frame.Frame.{Frame}
use Rattle.h2_frames.specs.declared.reader.Next.{Next}
use Rattle.h2_frames.specs.declared.reader.Next.TheVariants as next
use Rattle.h2_frames.specs.Framing.{AreFrames}
use Rattle.h2_frames.specs.Held.{Held}
use Rattle.h2_frames.specs.Reading.{preface, frame_next, next_of, held_with}
use Rattle.h2_frames.specs.Run.{Event, Fed, Gave, Leads, nothing_held, stream_of, frames_of, Reads}
use Rattle.h2_frames.proofs.FramingLemmas.{AreFrames-unique}
use Rattle.h2_frames.proofs.HeldLemmas.{holding}
use Rattle.h2_frames.proofs.RunLemmas.{reading_of_all, lasting}
use Rattle.client_calls.specs.Sound.{FindsNoFault}

-- ---- runs of a reader, one behind the other

leads-on : (events more : List Event) (old between new : Held) → Leads events old between → Leads more between new → Leads (events ++ more) old new
leads-on [] more old between new h k = subst (λ (held : Held). Leads more held new) h k
leads-on (Fed piece ∷ events) more old between new h k = (h.0, (h.1.0, leads-on events more h.0 between new h.1.1 k))
leads-on (Gave frame ∷ events) more old between new h k = (h.0, (h.1.0, leads-on events more h.0 between new h.1.1 k))

stream-on : (events more : List Event) → stream_of (events ++ more) ≡ stream_of events ++ stream_of more
stream-on [] more = refl
stream-on (Fed piece ∷ events) more = ap (λ (xs : List ℕ). piece ++ xs) (stream-on events more) ∙ sym (append_assoc piece (stream_of events) (stream_of more))
stream-on (Gave frame ∷ events) more = stream-on events more

-- ---- all that is read

none-next : frame_next [] ≡ next.More
unfolding frame_next
none-next = refl

other-next : (n : Next) (fault : H2Fault) (frame : Frame) → n ≡ next.Fault fault → n ≡ next.Frame frame → ⊥
other-next n fault frame e g = let h : next.Fault fault ≡ next.Frame frame = sym e ∙ g in cc

module _ (sent : List Frame) (text : List ℕ) (are : AreFrames sent text []) (fault : H2Fault) where
  -- behind all frames a reader holds nothing, and waits
  whole : (started : Bool) (held stream : List ℕ) (given : List Frame) → Reads started held stream given → stream ≡ preface ++ text → next_of (holding started held) ≡ next.Fault fault → ⊥
  whole true held stream given h is e =
      let same : h.0 ≡ text = append_cancel_left preface h.0 text (sym h.1 ∙ is) in
      let u = AreFrames-unique given sent h.0 held [] h.2 (subst (λ (xs : List ℕ). AreFrames sent xs []) (sym same) are)
      (λ frame g. other-next (frame_next held) fault frame e g) (λ frame g. let n : next.More ≡ next.Frame frame = sym none-next ∙ g in cc)
      in
      let last : next.More ≡ next.Fault fault = sym none-next ∙ ap frame_next (sym u.1) ∙ e in
      cc
  whole false held stream given h is e =
      let t : starts_with nat_eq (preface ++ text) preface ≡ true = (starts_is Decides-eqb (preface ++ text) preface _ refl).1 text refl in
      let f : starts_with nat_eq (preface ++ text) preface ≡ false = subst (λ (xs : List ℕ). starts_with nat_eq xs preface ≡ false) is h.2 in
      cc

  at-front : (events : List Event) (now : Held) (later : List ℕ) → Leads events nothing_held now → stream_of events ++ later ≡ preface ++ text → next_of now ≡ next.Fault fault → ⊥
  at-front events now later leads is e =
      let end : Held = held_with now later in
      let more = leads-on events (Fed later ∷ []) nothing_held now end leads (end, (refl, refl)) in
      let stream : stream_of (events ++ Fed later ∷ []) ≡ preface ++ text = stream-on events (Fed later ∷ []) ∙ ap (λ (xs : List ℕ). stream_of events ++ xs) (append-nil later) ∙ is in
      whole end.started end.bytes (stream_of (events ++ Fed later ∷ [])) (frames_of (events ++ Fed later ∷ [])) (reading_of_all (events ++ Fed later ∷ []) end more) stream (lasting events now later fault leads e)

pub finds-none : (sent : List Frame) (text : List ℕ) → AreFrames sent text [] → FindsNoFault (preface ++ text)
finds-none sent text are events now later fault leads is e = at-front sent text are fault events now later leads is e
