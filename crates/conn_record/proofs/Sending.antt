-- The bytes of a frame that is written make it whole with the last of them.
use Rattle.std.proofs.Common.{◌≡◌, ℕ, ◌+◌, ◌<◌, ◌≤◌, List, [], ◌∷◌, ◌++◌, map, length, take, drop, fold, refl, sym, ap, subst, ◌∙◌, append_assoc, append-nil, length-append, arith, inl, inr}
use Rattle.std.specs.List.{flat_map, concat, AllByRecursion}
use Rattle.std.proofs.lemmas.Bool.{cases_lt}
use Rattle.std.proofs.lemmas.List.{take_at, take-append-drop, take-append-le, append_cancel_left, length-drop}
use Rattle.std.proofs.lemmas.List.Sums.{fold-append}
use Rattle.links.specs.Link.{Moved, Wrote}
use Rattle.h2_frames.specs.declared.frame.Frame.{Frame}
use Rattle.h2_frames.specs.declared.reader.Next.TheVariants as next
use Rattle.h2_frames.specs.Header.{header_of, header_len}
use Rattle.h2_frames.specs.Held.{Held}
use Rattle.h2_frames.specs.Reading.{frame_next}
use Rattle.h2_frames.specs.Spelled.{Spells, IsAllowed}
use Rattle.h2_frames.specs.Spelling.{spelling}
use Rattle.h2_frames.proofs.HeldLemmas.{header_of-append}
use Rattle.h2_frames.proofs.FramingLemmas.{more_exactly, given}
use Rattle.h2_frames.proofs.Written.{written}
use Rattle.h2_record.specs.Record.{Record, Out}
use Rattle.conn_record.specs.Timeline.{Framing, byte_out, framed_from, framing_of}
use Rattle.conn_record.specs.Written.{with_outs}
use Rattle.conn_record.specs.Sending.{IsSendable, IsWithinFirst, Sent, PartsAreSent, AllAreSent}
use Rattle.conn_record.proofs.Framed.{continued}

-- a proper front of a frame's text holds no frame
pub front_more : (frame : Frame) (text front rest : List ℕ) → text ≡ front ++ rest → 0 < length rest → Spells frame text → IsAllowed text → frame_next front ≡ next.More
front_more frame text front rest split some spells allowed =
    let lengths : length text ≡ length front + length rest = ap length split ∙ length-append front rest in
    let same : header_len ≤ length front → header_of text ≡ header_of front = λ long. ap header_of split ∙ header_of-append front rest long in
    (more_exactly front).1 (
      (λ large. let n = ap (λ h. h.length) (same large.header) in omega (arith, n, large.large, allowed.small)),
      (λ whole. let n = ap (λ h. h.length) (same whole.header) in omega (arith, n, whole.payload, lengths, some, spells.whole)),
    )

abbrev at : Record → Held → List ℕ → ℕ → Framing
at frames held outflow since = record { frames = frames; inflow = held; outflow = outflow; since = since }

-- ---- one frame

module _ (frames : Record) (held : Held) (frame : Frame) (text : List ℕ) (spells : Spells frame text) (allowed : IsAllowed text) where
  -- a byte that isn't the last
  byte-more : (outflow rest : List ℕ) (byte since : ℕ) → outflow ++ byte ∷ rest ≡ text → 0 < length rest → byte_out (at frames held outflow since) byte ≡ at frames held (outflow ++ byte ∷ []) (since + 1)
  unfolding byte_out
  byte-more outflow rest byte since split some =
      let more : frame_next (outflow ++ byte ∷ []) ≡ next.More =
      front_more frame text (outflow ++ byte ∷ []) rest (sym split ∙ sym (append_assoc outflow (byte ∷ []) rest)) some spells allowed in
      rw more refl

  -- the last
  byte-last : (outflow : List ℕ) (byte since : ℕ) → outflow ++ byte ∷ [] ≡ text → byte_out (at frames held outflow since) byte ≡ at (Out frame ∷ frames) held [] (since + 1)
  unfolding byte_out
  byte-last outflow byte since split =
      let gives : frame_next (outflow ++ byte ∷ []) ≡ next.Frame frame = ap frame_next (split ∙ sym (append-nil text)) ∙ given frame text [] spells allowed in
      rw gives refl

  part-out : (bytes outflow rest : List ℕ) (since : ℕ) → outflow ++ (bytes ++ rest) ≡ text → 0 < length rest
      → fold byte_out (at frames held outflow since) bytes ≡ at frames held (outflow ++ bytes) (since + length bytes)
  part-out [] outflow rest since split some =
      let none : since ≡ since + 0 = omega arith in
      λ i. at frames held (sym (append-nil outflow) i) (none i)
  part-out (b ∷ bytes) outflow rest since split some =
      let count : (since + 1) + length bytes ≡ since + length (b ∷ bytes) = omega arith in
      let first = byte-more outflow (bytes ++ rest) b since split (omega (arith, length-append bytes rest)) in
      ap (λ (s : Framing). fold byte_out s bytes) first
      ∙ part-out bytes (outflow ++ b ∷ []) rest (since + 1) (append_assoc outflow (b ∷ []) (bytes ++ rest) ∙ split) some
      ∙ (λ i. at frames held (append_assoc outflow (b ∷ []) bytes i) (count i))

  whole-out : (bytes outflow : List ℕ) (since : ℕ) → outflow ++ bytes ≡ text → 0 < length bytes → fold byte_out (at frames held outflow since) bytes ≡ at (Out frame ∷ frames) held [] (since + length bytes)
  whole-out [] outflow since split some = absurd (omega arith)
  whole-out (b ∷ []) outflow since split some = byte-last outflow b since split
  whole-out (b ∷ c ∷ bytes) outflow since split some =
      let count : (since + 1) + length (c ∷ bytes) ≡ since + length (b ∷ c ∷ bytes) = omega arith in
      let first = byte-more outflow (c ∷ bytes) b since split (omega arith) in
      ap (λ (s : Framing). fold byte_out s (c ∷ bytes)) first
      ∙ whole-out (c ∷ bytes) (outflow ++ b ∷ []) (since + 1) (append_assoc outflow (b ∷ []) (c ∷ bytes) ∙ split) (omega arith)
      ∙ ap (λ (n : ℕ). at (Out frame ∷ frames) held [] n) count

-- ---- a list of frames

-- the shorter of two fronts of one list is a front of the longer
front-of : (xs left ys more : List ℕ) → xs ++ left ≡ ys ++ more → length xs ≤ length ys → ys ≡ xs ++ drop (length xs) ys
front-of xs left ys more same short =
    let front : take (length xs) ys ≡ xs = sym (take-append-le (length xs) ys more short) ∙ ap (take (length xs)) (sym same) ∙ take_at xs left (length xs) refl in
    sym (take-append-drop (length xs) ys) ∙ ap (λ (zs : List ℕ). zs ++ drop (length xs) ys) front

module _ (held : Held) where
  sent : (frames : List Frame) (r : Record) (since : ℕ) (bytes left : List ℕ) → AllByRecursion IsSendable frames → bytes ++ left ≡ flat_map spelling frames
      → Sent (at r held [] since) frames bytes left (fold byte_out (at r held [] since) bytes)
  sent [] r since [] left sendable same = record {
    whole = [];
    others = [];
    parts = refl;
    now_is = let none : since ≡ since + 0 = omega arith in ap (λ (n : ℕ). at r held [] n) none;
    held = same;
    within = refl;
  }
  sent [] r since (b ∷ bytes) left sendable same = absurd (cc)
  sent (frame ∷ frames) r since bytes left sendable same =
      let text = spelling frame in
      let spelled = written frame sendable.0.0 sendable.0.1 in
      elim (cases_lt (length bytes) (length text)) [
        | inl less ↦
            let split : text ≡ bytes ++ drop (length bytes) text = front-of bytes left text (flat_map spelling frames) same (omega arith) in
            let now : fold byte_out (at r held [] since) bytes ≡ at r held bytes (since + length bytes) =
            part-out r held frame text spelled.0 spelled.1 bytes [] (drop (length bytes) text) since (sym split) (omega (arith, length-drop (length bytes) text)) in
            subst (λ (s : Framing). Sent (at r held [] since) (frame ∷ frames) bytes left s) (sym now) (record {
              whole = [];
              others = frame ∷ frames;
              parts = refl;
              now_is = refl;
              held = same;
              within = less;
            })
        | inr long ↦
            let rest : List ℕ = drop (length text) bytes in
            let split : bytes ≡ text ++ rest = front-of text (flat_map spelling frames) bytes left (sym same) long in
            let onward : rest ++ left ≡ flat_map spelling frames =
            append_cancel_left text (rest ++ left) (flat_map spelling frames) (sym (append_assoc text rest left) ∙ ap (λ (xs : List ℕ). xs ++ left) (sym split) ∙ same) in
            let count : (since + length text) + length rest ≡ since + length bytes = omega (arith, ap length split, length-append text rest) in
            let first : fold byte_out (at r held [] since) text ≡ at (Out frame ∷ r) held [] (since + length text) =
            whole-out r held frame text spelled.0 spelled.1 text [] since refl (omega (arith, spelled.0.whole)) in
            let now : fold byte_out (at r held [] since) bytes ≡ fold byte_out (at (Out frame ∷ r) held [] (since + length text)) rest =
            ap (λ (xs : List ℕ). fold byte_out (at r held [] since) xs) split ∙ fold-append byte_out (at r held [] since) text rest ∙ ap (λ (s : Framing). fold byte_out s rest) first in
            let later = sent frames (Out frame ∷ r) (since + length text) rest left sendable.1 onward in
            subst (λ (s : Framing). Sent (at r held [] since) (frame ∷ frames) bytes left s) (sym now) (record {
              whole = frame ∷ later.whole;
              others = later.others;
              parts = ap (λ (fs : List Frame). frame ∷ fs) later.parts;
              now_is = later.now_is ∙ ap (λ (n : ℕ). at (with_outs r (frame ∷ later.whole)) held (fold byte_out (at (Out frame ∷ r) held [] (since + length text)) rest).outflow n) count;
              held = later.held;
              within = later.within;
            })
      ]

-- ---- in pieces

pieces-join : (pieces : List (List ℕ)) (s : Framing) → framed_from s (map Wrote pieces) ≡ fold byte_out s (concat pieces)
pieces-join [] s = refl
pieces-join (piece ∷ pieces) s = pieces-join pieces (fold byte_out s piece) ∙ sym (fold-append byte_out s piece (concat pieces))

pub pieces-went : (log : List Moved) (pieces : List (List ℕ)) → framing_of (log ++ map Wrote pieces) ≡ fold byte_out (framing_of log) (concat pieces)
pieces-went log pieces = continued log (map Wrote pieces) ∙ pieces-join pieces (framing_of log)

sent-from : (s : Framing) (frames : List Frame) (bytes left : List ℕ) → s.outflow ≡ [] → AllByRecursion IsSendable frames → bytes ++ left ≡ flat_map spelling frames → Sent s frames bytes left (fold byte_out s bytes)
sent-from s frames bytes left none sendable same =
    subst (λ (t : Framing). Sent t frames bytes left (fold byte_out t bytes)) (λ i. at s.frames s.inflow (sym none i) s.since) (sent s.inflow frames s.frames s.since bytes left sendable same)

pub parts-are-sent : PartsAreSent
parts-are-sent log frames pieces left none sendable same =
    subst (Sent (framing_of log) frames (concat pieces) left) (sym (pieces-went log pieces)) (sent-from (framing_of log) frames (concat pieces) left none sendable same)

-- nothing is left: all went
none-other : (outflow : List ℕ) (others : List Frame) → outflow ++ [] ≡ flat_map spelling others → IsWithinFirst outflow others → (others ≡ []) × (outflow ≡ [])
none-other outflow [] held within = (refl, within)
none-other outflow (frame ∷ others) held within =
    absurd (omega (arith, within, ap length held, length-append outflow [], length-append (spelling frame) (flat_map spelling others)))

pub all-are-sent : AllAreSent
all-are-sent log frames pieces none sendable same =
    let s = parts-are-sent log frames pieces [] none sendable (append-nil (concat pieces) ∙ same) in
    let rest = none-other (framing_of (log ++ map Wrote pieces)).outflow s.others s.held s.within in
    let all : s.whole ≡ frames = sym (append-nil s.whole) ∙ ap (λ (fs : List Frame). s.whole ++ fs) (sym rest.0) ∙ sym s.parts in
    s.now_is ∙ (λ i. at (with_outs (framing_of log).frames (all i)) (framing_of log).inflow (rest.1 i) ((framing_of log).since + length (concat pieces)))
