-- What is read is spelled so, and what is spelled so is read.
use Rattle.std.proofs.Common.{◌≡◌, ℕ, ◌+◌, ◌-◌, ◌≤◌, Bool, true, false, cond, List, [], ◌∷◌, ◌++◌, length, take, drop, Option, Some, None, refl, sym, ap, subst, ◌∙◌, append_assoc, arith, ◌⊎◌, ◌↔◌, inl, inr}
use Rattle.std.specs.Prelude.{nat_lt}
use Rattle.std.proofs.lemmas.Bool.{ltb-false, ltb-true, le-ltb, lt-ltb, cases_lt}
use Rattle.std.proofs.lemmas.List.{length-append, length-take, length-drop, take_at, drop_at, take-append-drop, drop-append-le, drop-take}
use Rattle.h2_frames.specs.declared.header.Header.{Header}
use Rattle.h2_frames.specs.declared.frame.Frame.{Frame}
use Rattle.h2_frames.specs.declared.fault.H2Fault.{H2Fault}
use Rattle.h2_frames.specs.declared.reader.Next.{Next}
use Rattle.h2_frames.specs.declared.reader.Next.TheVariants as next
use Rattle.h2_frames.specs.Header.{header_of, header_len, max_frame_size}
use Rattle.h2_frames.specs.Fault.{fault, fault_in}
use Rattle.h2_frames.specs.Frame.{frame_of}
use Rattle.h2_frames.specs.Reading.{frame_next, payload_next, judged}
use Rattle.h2_frames.specs.Spelled.{Spells, IsAllowed, Means}
use Rattle.h2_frames.specs.Framing.{AreFrames, Framed, BeginsNoFrame, BeginsWith, BeginsWhole, AnnouncesLarge}
use Rattle.h2_frames.proofs.HeldLemmas.{header_of-append}
use Rattle.h2_frames.proofs.Meaning.{Means-frame_of, frame_of-means}

-- which way a test between answers went
pub chosen : (b : Bool) (x y z : Next) → cond b x y ≡ z → ((b ≡ true) × (x ≡ z)) ⊎ ((b ≡ false) × (y ≡ z))
chosen true x y z e = inl (refl, e)
chosen false x y z e = inr (refl, e)

-- a frame was judged sound
judged_frame : (found : Option H2Fault) (read frame : Frame) → judged found read ≡ next.Frame frame → (found ≡ None) × (read ≡ frame)
judged_frame None read frame e = (refl, cc)
judged_frame (Some broken) read frame e = absurd cc

-- a judged frame is an answer
never_more : (found : Option H2Fault) (read : Frame) → judged found read ≡ next.More → ⊥
never_more None read e = cc
never_more (Some broken) read e = cc

-- what an answer with a frame says of the bytes
record IsWhole (bytes : List ℕ) (frame : Frame) : Type 0 where
  header : header_len ≤ length bytes
  small : (header_of bytes).length ≤ max_frame_size
  long : (header_of bytes).length ≤ length (drop header_len bytes)
  sound : fault_in (header_of bytes) (take (header_of bytes).length (drop header_len bytes)) ≡ None
  is : frame_of (header_of bytes) (take (header_of bytes).length (drop header_len bytes)) ≡ frame

whole_from : (bytes : List ℕ) (frame : Frame) → frame_next bytes ≡ next.Frame frame → IsWhole bytes frame
unfolding frame_next
whole_from bytes frame e =
    let header = header_of bytes in
    let rest = drop header_len bytes in
    elim (chosen (nat_lt (length bytes) header_len) next.More (payload_next header rest) (next.Frame frame) e) [
      | inl a ↦ absurd (let f = a.1 in cc)
      | inr a ↦ elim (chosen (nat_lt max_frame_size header.length) (next.Fault (fault 6 2)) (cond (nat_lt (length rest) header.length) next.More (judged (fault_in header (take header.length rest)) (frame_of header (take header.length rest)))) (next.Frame frame) a.1) [
        | inl b ↦ absurd (let f = b.1 in cc)
        | inr b ↦ elim (chosen (nat_lt (length rest) header.length) next.More (judged (fault_in header (take header.length rest)) (frame_of header (take header.length rest))) (next.Frame frame) b.1) [
          | inl d ↦ absurd (let f = d.1 in cc)
          | inr d ↦
              let j = judged_frame (fault_in header (take header.length rest)) (frame_of header (take header.length rest)) frame d.1 in
              record { header = ltb-false _ _ a.0; small = ltb-false _ _ b.0; long = ltb-false _ _ d.0; sound = j.0; is = j.1 }
        ]
      ]
    ]

-- What is given is spelled by the front of the bytes.
pub begins : (bytes : List ℕ) (frame : Frame) → frame_next bytes ≡ next.Frame frame → BeginsWith frame bytes (drop (header_len + (header_of bytes).length) bytes)
begins bytes frame e =
    let w = whole_from bytes frame e in
    let n = (header_of bytes).length in
    let text = take (header_len + n) bytes in
    let after = drop (header_len + n) bytes in
    let parts : bytes ≡ text ++ after = sym (take-append-drop (header_len + n) bytes) in
    let enough : header_len + n ≤ length bytes = omega (arith, w.long, w.header, length-drop header_len bytes) in
    let len : length text ≡ header_len + n = omega (arith, length-take (header_len + n) bytes) in
    let same : header_of text ≡ header_of bytes = sym (ap header_of parts ∙ header_of-append text after (omega arith)) in
    let payload : drop header_len text ≡ take n (drop header_len bytes) = drop-take header_len n bytes in
    let means : Means (header_of bytes) (take n (drop header_len bytes)) frame =
    subst (Means (header_of bytes) (take n (drop header_len bytes))) w.is (Means-frame_of (header_of bytes) (take n (drop header_len bytes)) w.sound) in (
      text,
      parts,
      record {
        whole = len ∙ ap (λ (h : Header). header_len + h.length) (sym same);
        means = rw (same, payload) means;
      },
      record { small = rw same w.small; sound = rw (same, payload) w.sound },
    )

-- What is spelled is given, whatever follows.
pub given : (frame : Frame) (text after : List ℕ) → Spells frame text → IsAllowed text → frame_next (text ++ after) ≡ next.Frame frame
unfolding frame_next
given frame text after spelled allowed =
    let n = (header_of text).length in
    let long : header_len ≤ length text = omega (arith, spelled.whole) in
    let same : header_of (text ++ after) ≡ header_of text = header_of-append text after long in
    let t0 : nat_lt (length (text ++ after)) header_len ≡ false = le-ltb _ _ (omega (arith, length-append text after)) in
    let t1 : nat_lt max_frame_size n ≡ false = le-ltb _ _ allowed.small in
    let rest : drop header_len (text ++ after) ≡ drop header_len text ++ after = drop-append-le header_len text after long in
    let len : length (drop header_len text) ≡ n = omega (arith, spelled.whole, length-drop header_len text) in
    let t2 : nat_lt (length (drop header_len text ++ after)) n ≡ false = le-ltb _ _ (omega (arith, length-append (drop header_len text) after)) in
    let payload : take n (drop header_len text ++ after) ≡ drop header_len text = take_at (drop header_len text) after n len in
    rw (t0, same, rest, t1, t2, payload, allowed.sound) (ap next.Frame (frame_of-means (header_of text) (drop header_len text) frame spelled.means))

-- and its bytes are held no more
pub left_after : (frame : Frame) (text after : List ℕ) → Spells frame text → drop (header_len + (header_of (text ++ after)).length) (text ++ after) ≡ after
left_after frame text after spelled =
    rw (header_of-append text after (omega (arith, spelled.whole))) (drop_at text after (header_len + (header_of text).length) spelled.whole)

-- ---- lists of frames

pub AreFrames-append : (frames more : List Frame) (bytes mid rest : List ℕ) → AreFrames frames bytes mid → AreFrames more mid rest → AreFrames (frames ++ more) bytes rest
AreFrames-append [] more bytes mid rest h k = rw h k
AreFrames-append (frame ∷ frames) more bytes mid rest h k = (h.0, h.1, h.2, h.3, h.4, AreFrames-append frames more h.1 mid rest h.5 k)

-- bytes that follow are left
pub AreFrames-followed : (frames : List Frame) (bytes rest piece : List ℕ) → AreFrames frames bytes rest → AreFrames frames (bytes ++ piece) (rest ++ piece)
AreFrames-followed [] bytes rest piece h = ap (λ (xs : List ℕ). xs ++ piece) h
AreFrames-followed (frame ∷ frames) bytes rest piece h =
    (h.0, h.1 ++ piece, rw h.2 (append_assoc h.0 h.1 piece), h.3, h.4, AreFrames-followed frames h.1 rest piece h.5)

-- two readings of the same bytes
pub AreFrames-unique : (frames others : List Frame) (bytes rest left : List ℕ) → AreFrames frames bytes rest → AreFrames others bytes left
    → ((frame : Frame) → frame_next rest ≡ next.Frame frame → ⊥) → ((frame : Frame) → frame_next left ≡ next.Frame frame → ⊥) → (frames ≡ others) × (rest ≡ left)
AreFrames-unique [] [] bytes rest left h k end fin = (refl, sym h ∙ k)
AreFrames-unique [] (other ∷ others) bytes rest left h k end fin =
    absurd (end other (ap frame_next (sym h ∙ k.2) ∙ given other k.0 k.1 k.3 k.4))
AreFrames-unique (frame ∷ frames) [] bytes rest left h k end fin =
    absurd (fin frame (ap frame_next (sym k ∙ h.2) ∙ given frame h.0 h.1 h.3 h.4))
AreFrames-unique (frame ∷ frames) (other ∷ others) bytes rest left h k end fin =
    let a : frame_next bytes ≡ next.Frame frame = ap frame_next h.2 ∙ given frame h.0 h.1 h.3 h.4 in
    let b : frame_next bytes ≡ next.Frame other = ap frame_next k.2 ∙ given other k.0 k.1 k.3 k.4 in
    let same : frame ≡ other = cc in
    let left_of = λ (xs : List ℕ). drop (header_len + (header_of xs).length) xs in
    let after : h.1 ≡ k.1 = sym (left_after frame h.0 h.1 h.3) ∙ ap left_of (sym h.2 ∙ k.2) ∙ left_after other k.0 k.1 k.3 in
    let more : AreFrames others h.1 left = rw after k.5 in
    let u = AreFrames-unique frames others h.1 rest left h.5 more end fin in
    (rw (same, u.0) refl, u.1)

-- ---- when more bytes are wanted

more_from : (bytes : List ℕ) → frame_next bytes ≡ next.More → (AnnouncesLarge bytes → ⊥) × (BeginsWhole bytes → ⊥)
unfolding frame_next
more_from bytes e =
    let header = header_of bytes in
    let rest = drop header_len bytes in
    elim (chosen (nat_lt (length bytes) header_len) next.More (payload_next header rest) next.More e) [
      | inl a ↦
          let short = ltb-true (length bytes) header_len a.0 in
          (λ large. omega (arith, large.header), λ whole. omega (arith, whole.header))
      | inr a ↦ elim (chosen (nat_lt max_frame_size header.length) (next.Fault (fault 6 2)) (cond (nat_lt (length rest) header.length) next.More (judged (fault_in header (take header.length rest)) (frame_of header (take header.length rest)))) next.More a.1) [
        | inl b ↦ absurd (let f = b.1 in cc)
        | inr b ↦
            let small = ltb-false max_frame_size header.length b.0 in
            elim (chosen (nat_lt (length rest) header.length) next.More (judged (fault_in header (take header.length rest)) (frame_of header (take header.length rest))) next.More b.1) [
              | inl d ↦
                  let short = ltb-true (length rest) header.length d.0 in
                  (λ large. omega (arith, large.large), λ whole. omega (arith, whole.payload, whole.header, length-drop header_len bytes))
              | inr d ↦ absurd (never_more (fault_in header (take header.length rest)) (frame_of header (take header.length rest)) d.1)
            ]
      ]
    ]

to_more : (bytes : List ℕ) → (AnnouncesLarge bytes → ⊥) → (BeginsWhole bytes → ⊥) → frame_next bytes ≡ next.More
unfolding frame_next
to_more bytes small part =
    elim (cases_lt (length bytes) header_len) [
      | inl short ↦ let t : nat_lt (length bytes) header_len ≡ true = lt-ltb _ _ short in rw t refl
      | inr long ↦
          let t0 : nat_lt (length bytes) header_len ≡ false = le-ltb _ _ long in
          elim (cases_lt max_frame_size (header_of bytes).length) [
            | inl large ↦ absurd (small (record { header = long; large = omega arith }))
            | inr fits ↦
                let t1 : nat_lt max_frame_size (header_of bytes).length ≡ false = le-ltb _ _ fits in
                elim (cases_lt (length (drop header_len bytes)) (header_of bytes).length) [
                  | inl less ↦
                      let t2 : nat_lt (length (drop header_len bytes)) (header_of bytes).length ≡ true = lt-ltb _ _ less in
                      rw (t0, t1, t2) refl
                  | inr enough ↦ absurd (part (record { header = long; payload = omega (arith, length-drop header_len bytes) }))
                ]
          ]
    ]

pub more_exactly : (bytes : List ℕ) → (frame_next bytes ≡ next.More) ↔ ((AnnouncesLarge bytes → ⊥) × (BeginsWhole bytes → ⊥))
more_exactly bytes = (more_from bytes, λ h. to_more bytes h.0 h.1)

-- ---- the frames of some bytes

gives_none : (bytes : List ℕ) → BeginsNoFrame bytes → (frame : Frame) → frame_next bytes ≡ next.Frame frame → ⊥
gives_none bytes none frame e =
    let b = begins bytes frame e in
    none frame b.0 (drop (header_len + (header_of bytes).length) bytes) b.1 b.2 b.3

pub one_framing : (bytes : List ℕ) (frames others : List Frame) (rest left : List ℕ) → Framed bytes frames rest → Framed bytes others left → (frames ≡ others) × (rest ≡ left)
one_framing bytes frames others rest left h k =
    AreFrames-unique frames others bytes rest left h.whole k.whole (gives_none rest h.ends) (gives_none left k.ends)

pub read_on : (bytes piece : List ℕ) (frames more : List Frame) (rest left : List ℕ) → AreFrames frames bytes rest → Framed (rest ++ piece) more left → Framed (bytes ++ piece) (frames ++ more) left
read_on bytes piece frames more rest left h k = record {
  whole = AreFrames-append frames more (bytes ++ piece) (rest ++ piece) left (AreFrames-followed frames bytes rest piece h) k.whole;
  ends = k.ends;
}
