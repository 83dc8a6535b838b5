-- Runs of a reader: what was given and what is held are a reading of the whole stream.
use Rattle.std.proofs.Common.{◌≡◌, ℕ, ◌+◌, ◌-◌, ◌≤◌, Bool, true, false, cond, List, [], ◌∷◌, ◌++◌, length, take, drop, refl, sym, ap, subst, ◌∙◌, append_assoc, arith, inl, inr}
use Rattle.std.specs.Prelude.{nat_lt, nat_eq}
use Rattle.std.specs.List.{starts_with}
use Rattle.std.proofs.lemmas.Bool.{ltb-false, le-ltb, cases_lt}
use Rattle.std.proofs.lemmas.Bool.Decides.{Decides-eqb}
use Rattle.std.proofs.lemmas.Slice.Eq.{starts_is}
use Rattle.std.proofs.lemmas.List.{append-nil, append_cancel_left, length-append, take_at, take-append-drop, take-append-le, drop-append-le}
use Rattle.h2_frames.specs.declared.frame.Frame.{Frame}
use Rattle.h2_frames.specs.declared.fault.H2Fault.{H2Fault}
use Rattle.h2_frames.specs.declared.reader.Next.TheVariants as next
use Rattle.h2_frames.specs.Header.{header_of, header_len, max_frame_size}
use Rattle.h2_frames.specs.Fault.{fault, fault_in}
use Rattle.h2_frames.specs.Frame.{frame_of}
use Rattle.h2_frames.specs.Held.{Held, preface_len}
use Rattle.h2_frames.specs.Reading.{preface, preface_next, frame_next, payload_next, judged, next_of, held_after, held_with}
use Rattle.h2_frames.specs.Framing.{AreFrames}
use Rattle.h2_frames.specs.Run.{Event, Fed, Gave, Leads, nothing_held, stream_of, frames_of, Reads, IsReadingOfAll, GivesNoFrame, IsOneReading, IsLasting}
use Rattle.h2_frames.proofs.HeldLemmas.{header_of-append, holding}
use Rattle.h2_frames.proofs.FramingLemmas.{chosen, begins, AreFrames-append, AreFrames-followed, AreFrames-unique}

-- ---- the preface

length-preface : length preface ≡ preface_len
unfolding preface
length-preface = refl

-- bytes that start with the preface
starts_split : (bytes : List ℕ) → starts_with nat_eq bytes preface ≡ true → bytes ≡ preface ++ drop preface_len bytes
starts_split bytes e = subst (λ (n : ℕ). bytes ≡ preface ++ drop n bytes) length-preface ((starts_is Decides-eqb bytes preface _ refl).0 e)

starts_with-append : (bytes : List ℕ) → starts_with nat_eq (preface ++ bytes) preface ≡ true
starts_with-append bytes = (starts_is Decides-eqb (preface ++ bytes) preface _ refl).1 bytes refl

-- ---- steps

-- a frame more
AreFrames-more : (frames : List Frame) (frame : Frame) (bytes held : List ℕ) → AreFrames frames bytes held → frame_next held ≡ next.Frame frame
    → AreFrames (frames ++ frame ∷ []) bytes (drop (header_len + (header_of held).length) held)
AreFrames-more frames frame bytes held h e =
    let b = begins held frame e in
    let after = drop (header_len + (header_of held).length) held in
    AreFrames-append frames (frame ∷ []) bytes held after h (b.0, after, b.1, b.2, b.3, refl)

-- before the preface is whole nothing is given
pub preface_next-none : (bytes : List ℕ) (frame : Frame) → preface_next bytes ≡ next.Frame frame → ⊥
preface_next-none bytes frame e =
    elim (chosen (starts_with nat_eq preface bytes) next.More (next.Fault (fault 1 1)) (next.Frame frame) e) [
      | inl a ↦ let f = a.1 in cc
      | inr a ↦ let f = a.1 in cc
    ]

fed_false : (stream piece : List ℕ) (whole : Bool) → starts_with nat_eq (stream ++ piece) preface ≡ whole
    → let now = cond whole (holding true (drop preface_len (stream ++ piece))) (holding false (stream ++ piece)) in Reads now.started now.bytes (stream ++ piece) []
fed_false stream piece true e = (drop preface_len (stream ++ piece), starts_split (stream ++ piece) e, refl)
fed_false stream piece false e = (refl, refl, e)

step-fed : (started : Bool) (bytes stream piece : List ℕ) (frames : List Frame) → Reads started bytes stream frames
    → let now = held_with (holding started bytes) piece in Reads now.started now.bytes (stream ++ piece) frames
step-fed true bytes stream piece frames h =
    (h.0 ++ piece, rw h.1 (append_assoc preface h.0 piece), AreFrames-followed frames h.0 bytes piece h.2)
step-fed false bytes stream piece frames h =
    rw (h.0, h.1) (fed_false stream piece (starts_with nat_eq (stream ++ piece) preface) refl)

step-gave : (started : Bool) (bytes stream : List ℕ) (frame : Frame) (frames : List Frame) → Reads started bytes stream frames → next_of (holding started bytes) ≡ next.Frame frame
    → let now = held_after (holding started bytes) (next.Frame frame) in Reads now.started now.bytes stream (frames ++ frame ∷ [])
step-gave true bytes stream frame frames h e = (h.0, h.1, AreFrames-more frames frame h.0 bytes h.2 e)
step-gave false bytes stream frame frames h e = absurd (preface_next-none bytes frame e)

run : (events : List Event) (old now : Held) (stream : List ℕ) (frames : List Frame) → Reads old.started old.bytes stream frames → Leads events old now
    → Reads now.started now.bytes (stream ++ stream_of events) (frames ++ frames_of events)
run [] old now stream frames h leads = rw (leads, append-nil, append-nil) h
run (Fed piece ∷ events) old now stream frames h leads =
    rw (← append_assoc stream piece (stream_of events)) (run events leads.0 now (stream ++ piece) frames (rw leads.1.0 (step-fed old.started old.bytes stream piece frames h)) leads.1.1)
run (Gave frame ∷ events) old now stream frames h leads =
    let more : frames ++ frame ∷ frames_of events ≡ (frames ++ frame ∷ []) ++ frames_of events = sym (append_assoc frames (frame ∷ []) (frames_of events)) in
    rw more (run events leads.0 now stream (frames ++ frame ∷ []) (rw leads.1.0.1 (step-gave old.started old.bytes stream frame frames h leads.1.0.0)) leads.1.1)

nothing_read : Reads false [] [] []
unfolding preface
nothing_read = (refl, refl, refl)

pub reading_of_all : IsReadingOfAll
reading_of_all events now leads = run events nothing_held now [] [] nothing_read leads

-- ---- one reading

agree : (a b : Bool) (x y stream : List ℕ) (frames others : List Frame) → Reads a x stream frames → Reads b y stream others → GivesNoFrame (holding a x) → GivesNoFrame (holding b y)
    → (frames ≡ others) × (holding a x ≡ holding b y)
agree true true x y stream frames others h k end fin =
    let same : h.0 ≡ k.0 = append_cancel_left preface h.0 k.0 (sym h.1 ∙ k.1) in
    let more : AreFrames others h.0 y = rw same k.2 in
    let u = AreFrames-unique frames others h.0 x y h.2 more end fin in
    (u.0, ap (holding true) u.1)
agree true false x y stream frames others h k end fin =
    absurd (let t : starts_with nat_eq (preface ++ h.0) preface ≡ true = starts_with-append h.0 in let f : starts_with nat_eq (preface ++ h.0) preface ≡ false = rw (← h.1) k.2 in cc)
agree false true x y stream frames others h k end fin =
    absurd (let t : starts_with nat_eq (preface ++ k.0) preface ≡ true = starts_with-append k.0 in let f : starts_with nat_eq (preface ++ k.0) preface ≡ false = rw (← k.1) h.2 in cc)
agree false false x y stream frames others h k end fin = (h.1 ∙ sym k.1, ap (holding false) (h.0 ∙ sym k.0))

pub one_reading : IsOneReading
one_reading events others now then leads also same end fin =
    agree now.started then.started now.bytes then.bytes (stream_of events) (frames_of events) (frames_of others) (reading_of_all events now leads)
    (rw same (reading_of_all others then also)) end fin

-- ---- a fault stays

-- bytes that aren't a front of the preface, nor begin with it, don't come to begin with it
not_started : (bytes piece : List ℕ) → starts_with nat_eq preface bytes ≡ false → starts_with nat_eq bytes preface ≡ false → (b : Bool) → starts_with nat_eq (bytes ++ piece) preface ≡ b → b ≡ false
not_started bytes piece other none false e = refl
not_started bytes piece other none true e =
    let parts : bytes ++ piece ≡ preface ++ drop preface_len (bytes ++ piece) = starts_split (bytes ++ piece) e in
    let rest = drop preface_len (bytes ++ piece) in
    elim (cases_lt (length bytes) preface_len) [
      | inl short ↦
          let front : take (length bytes) preface ≡ bytes =
          sym (take-append-le (length bytes) preface rest (omega (arith, length-preface))) ∙ ap (take (length bytes)) (sym parts) ∙ take_at bytes piece (length bytes) refl in
          let split : preface ≡ bytes ++ drop (length bytes) preface = sym (take-append-drop (length bytes) preface) ∙ ap (λ (xs : List ℕ). xs ++ drop (length bytes) preface) front in
          absurd (let t : starts_with nat_eq preface bytes ≡ true = (starts_is Decides-eqb preface bytes _ refl).1 (drop (length bytes) preface) split in cc)
      | inr long ↦
          let front : take preface_len bytes ≡ preface =
          sym (take-append-le preface_len bytes piece (omega arith)) ∙ ap (take preface_len) parts ∙ take_at preface rest preface_len length-preface in
          let split : bytes ≡ preface ++ drop preface_len bytes = sym (take-append-drop preface_len bytes) ∙ ap (λ (xs : List ℕ). xs ++ drop preface_len bytes) front in
          absurd (let t : starts_with nat_eq bytes preface ≡ true = (starts_is Decides-eqb bytes preface _ refl).1 (drop preface_len bytes) split in cc)
    ]

-- a wrong byte stays wrong
not_front : (bytes piece : List ℕ) → starts_with nat_eq preface bytes ≡ false → (b : Bool) → starts_with nat_eq preface (bytes ++ piece) ≡ b → b ≡ false
not_front bytes piece other false e = refl
not_front bytes piece other true e =
    let split = (starts_is Decides-eqb preface (bytes ++ piece) _ refl).0 e in
    let rest = drop (length (bytes ++ piece)) preface in
    absurd (let t : starts_with nat_eq preface bytes ≡ true = (starts_is Decides-eqb preface bytes _ refl).1 (piece ++ rest) (split ∙ append_assoc bytes piece rest) in cc)

preface_next-fault : (bytes : List ℕ) (broken : H2Fault) → preface_next bytes ≡ next.Fault broken → (starts_with nat_eq preface bytes ≡ false) × (next.Fault (fault 1 1) ≡ next.Fault broken)
preface_next-fault bytes broken e =
    elim (chosen (starts_with nat_eq preface bytes) next.More (next.Fault (fault 1 1)) (next.Fault broken) e) [
      | inl a ↦ absurd (let f = a.1 in cc)
      | inr a ↦ a
    ]

-- the answer to a whole header whose payload is too long or whole
frame_next-stays : (bytes piece : List ℕ) (broken : H2Fault) → frame_next bytes ≡ next.Fault broken → frame_next (bytes ++ piece) ≡ next.Fault broken
unfolding frame_next
frame_next-stays bytes piece broken e =
    let header = header_of bytes in
    let rest = drop header_len bytes in
    elim (chosen (nat_lt (length bytes) header_len) next.More (payload_next header rest) (next.Fault broken) e) [
      | inl a ↦ absurd (let f = a.1 in cc)
      | inr a ↦
          let long : header_len ≤ length bytes = ltb-false _ _ a.0 in
          let t0 : nat_lt (length (bytes ++ piece)) header_len ≡ false = le-ltb _ _ (omega (arith, length-append bytes piece)) in
          let same : header_of (bytes ++ piece) ≡ header = header_of-append bytes piece long in
          let after : drop header_len (bytes ++ piece) ≡ rest ++ piece = drop-append-le header_len bytes piece long in
          elim (chosen (nat_lt max_frame_size header.length) (next.Fault (fault 6 2)) (cond (nat_lt (length rest) header.length) next.More (judged (fault_in header (take header.length rest)) (frame_of header (take header.length rest)))) (next.Fault broken) a.1) [
            | inl b ↦ rw (t0, same, b.0) b.1
            | inr b ↦ elim (chosen (nat_lt (length rest) header.length) next.More (judged (fault_in header (take header.length rest)) (frame_of header (take header.length rest))) (next.Fault broken) b.1) [
              | inl d ↦ absurd (let f = d.1 in cc)
              | inr d ↦
                  let enough : header.length ≤ length rest = ltb-false _ _ d.0 in
                  let t2 : nat_lt (length (rest ++ piece)) header.length ≡ false = le-ltb _ _ (omega (arith, length-append rest piece)) in
                  let payload : take header.length (rest ++ piece) ≡ take header.length rest = take-append-le header.length rest piece enough in
                  rw (t0, same, after, b.0, t2, payload) d.1
            ]
          ]
    ]

lasts : (started : Bool) (bytes stream piece : List ℕ) (frames : List Frame) (broken : H2Fault) → Reads started bytes stream frames → next_of (holding started bytes) ≡ next.Fault broken
    → next_of (held_with (holding started bytes) piece) ≡ next.Fault broken
lasts true bytes stream piece frames broken h e = frame_next-stays bytes piece broken e
lasts false bytes stream piece frames broken h e =
    let wrong = preface_next-fault bytes broken e in
    let none : starts_with nat_eq bytes preface ≡ false = rw h.0 h.2 in
    let a : starts_with nat_eq (bytes ++ piece) preface ≡ false = not_started bytes piece wrong.0 none _ refl in
    let b : starts_with nat_eq preface (bytes ++ piece) ≡ false = not_front bytes piece wrong.0 _ refl in
    rw (a, b) wrong.1

pub lasting : IsLasting
lasting events now piece broken leads e =
    lasts now.started now.bytes (stream_of events) piece (frames_of events) broken (reading_of_all events now leads) e
