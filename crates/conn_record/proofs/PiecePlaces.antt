-- Of a piece of at most the bytes that are wanted, the first byte alone can be the first of a frame.
use Rattle.std.proofs.Common.{◌≡◌, ℕ, ◌+◌, ◌<◌, ◌≤◌, ◌==◌, Bool, true, false, not, ◌&&◌, List, [], ◌∷◌, ◌++◌, length, refl, sym, ap, subst, ◌∙◌, true≢false, arith}
use Rattle.std.specs.Prelude.{nat_eq}
use Rattle.std.specs.List.{starts_with}
use Rattle.std.proofs.lemmas.Bool.Decides.{nat_tests}
use Rattle.std.proofs.lemmas.List.{length-append}
use Rattle.h2_frames.specs.declared.reader.Next.{Next}
use Rattle.h2_frames.specs.declared.reader.Next.TheVariants as next
use Rattle.h2_frames.specs.Held.{preface_len}
use Rattle.h2_frames.specs.Reading.{preface, preface_next, frame_next, frame_need, need_of}
use Rattle.h2_frames.specs.Run.{nothing_held}
use Rattle.h2_frames.proofs.HeldLemmas.{holding}
use Rattle.h2_frames.proofs.RunLemmas.{preface_next-none}
use Rattle.h2_record.specs.Record.{Record, Broken}
use Rattle.conn_record.specs.Timeline.{Framing, is_broken, came, byte_in}
use Rattle.conn_record.specs.Pieces.{IsUnfinished}
use Rattle.conn_record.specs.Places.{begins_frame, HoldsAtBytes}
use Rattle.conn_record.proofs.Unfinished.{frame-more, frame-wants-less, short-preface}
use Rattle.conn_record.proofs.Reading.{at, first-byte}

not-empty : (bytes : List ℕ) (byte : ℕ) → (length (bytes ++ byte ∷ []) == 0) ≡ true → ⊥
not-empty bytes byte e = let n = length-append bytes (byte ∷ []) in let none : length (bytes ++ byte ∷ []) ≡ 0 = grind (arith, nat_tests) in omega arith

and-second : (a b : Bool) → (a && b) ≡ true → b ≡ true
and-second true b e = e
and-second false b e = absurd (true≢false (sym e))

module _ (AtWait AtRead : Framing → Type 0) where
  behind-broken : (bytes : List ℕ) (s : Framing) → is_broken s.frames ≡ true → HoldsAtBytes AtWait AtRead s bytes
  unfolding byte_in
  behind-broken [] s broken = tt
  behind-broken (b ∷ bytes) s broken =
      let same : byte_in s b ≡ s = rw broken refl in (
        λ begins. absurd (true≢false (sym begins ∙ ap (λ (x : Bool). not x && (length s.inflow.bytes == 0)) broken)),
        subst (λ (t : Framing). HoldsAtBytes AtWait AtRead t bytes) (sym same) (behind-broken bytes s broken),
      )

  module _ (frames : Record) (sound : is_broken frames ≡ false) (outflow : List ℕ) (since : ℕ) where
    in-frame : (bytes held : List ℕ) → frame_next held ≡ next.More → length bytes ≤ frame_need held → (begins_frame (at frames (holding true held) outflow since) ≡ true → AtRead (at frames (holding true held) outflow since))
        → HoldsAtBytes AtWait AtRead (at frames (holding true held) outflow since) bytes
    in-frame [] held more fits here = tt
    in-frame (b ∷ []) held more fits here = (here, tt)
    in-frame (b ∷ c ∷ bytes) held more fits here =
        let next-more : frame_next (held ++ b ∷ []) ≡ next.More = frame-more held b more (omega arith) in
        let first : byte_in (at frames (holding true held) outflow since) b ≡ at frames (holding true (held ++ b ∷ [])) outflow since = first-byte frames sound outflow since (holding true held) b ∙ rw next-more refl in (
          here,
          subst (λ (s : Framing). HoldsAtBytes AtWait AtRead s (c ∷ bytes)) (sym first)
              (in-frame (c ∷ bytes) (held ++ b ∷ []) next-more (frame-wants-less held b (length (c ∷ bytes)) (omega arith) (omega arith))
              (λ begins. absurd (not-empty held b (and-second (not (is_broken frames)) _ begins)))),
        )

    in-preface : (bytes held : List ℕ) → preface_next held ≡ next.More → length held < preface_len → length held + length bytes ≤ preface_len
        → (begins_frame (at frames (holding false held) outflow since) ≡ true → AtRead (at frames (holding false held) outflow since))
        → HoldsAtBytes AtWait AtRead (at frames (holding false held) outflow since) bytes
    in-preface [] held more part fits here = tt
    in-preface (b ∷ []) held more part fits here = (here, tt)
    in-preface (b ∷ c ∷ bytes) held more part fits here = (
      here,
      by (preface_next (held ++ b ∷ [])) refl
          (λ e. in-preface (c ∷ bytes) (held ++ b ∷ []) e (omega (arith, length-append held (b ∷ []), fits)) (omega (arith, length-append held (b ∷ []), fits))
          (λ begins. absurd (not-empty held b (and-second (not (is_broken frames)) _ begins)))),
    )
      where
        none : starts_with nat_eq (held ++ b ∷ []) preface ≡ false
        none = short-preface (held ++ b ∷ []) (omega (arith, length-append held (b ∷ []), fits))

        first : (n : Next) → preface_next (held ++ b ∷ []) ≡ n → byte_in (at frames (holding false held) outflow since) b ≡ came (at frames (holding false held) outflow since) (holding false (held ++ b ∷ [])) n
        first n e = first-byte frames sound outflow since (holding false held) b ∙ rw (none, e) refl

        by : (n : Next) → preface_next (held ++ b ∷ []) ≡ n → (preface_next (held ++ b ∷ []) ≡ next.More → HoldsAtBytes AtWait AtRead (at frames (holding false (held ++ b ∷ [])) outflow since) (c ∷ bytes))
            → HoldsAtBytes AtWait AtRead (byte_in (at frames (holding false held) outflow since) b) (c ∷ bytes)
        by next.More e onward = subst (λ (s : Framing). HoldsAtBytes AtWait AtRead s (c ∷ bytes)) (sym (first next.More e)) (onward e)
        by (next.Fault broken) e onward =
            subst (λ (s : Framing). HoldsAtBytes AtWait AtRead s (c ∷ bytes)) (sym (first (next.Fault broken) e)) (behind-broken (c ∷ bytes) (at (Broken broken ∷ frames) nothing_held outflow 0) refl)
        by (next.Frame frame) e onward = absurd (preface_next-none (held ++ b ∷ []) frame e)

    piece-by : (begun : Bool) (held bytes : List ℕ) → IsUnfinished (holding begun held) → length bytes ≤ need_of (holding begun held)
        → (begins_frame (at frames (holding begun held) outflow since) ≡ true → AtRead (at frames (holding begun held) outflow since))
        → HoldsAtBytes AtWait AtRead (at frames (holding begun held) outflow since) bytes
    piece-by true held bytes u fits here = in-frame bytes held u.goes_on fits here
    piece-by false held bytes u fits here = in-preface bytes held u.goes_on (omega (arith, u.wants)) (omega (arith, u.wants, fits)) here

  -- What holds where such a piece begins a frame, if it does, holds at all its bytes.
  pub places-piece : (s : Framing) (bytes : List ℕ) → is_broken s.frames ≡ false → IsUnfinished s.inflow → length bytes ≤ need_of s.inflow → (begins_frame s ≡ true → AtRead s) → HoldsAtBytes AtWait AtRead s bytes
  places-piece s bytes sound u fits here = piece-by s.frames sound s.outflow s.since s.inflow.started s.inflow.bytes bytes u fits here
