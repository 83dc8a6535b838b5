-- A piece of at most the bytes that are wanted is framed as a reader that was fed it answers.
use Rattle.std.proofs.Common.{◌≡◌, ℕ, ◌+◌, ◌<◌, ◌≤◌, Bool, true, false, List, [], ◌∷◌, ◌++◌, length, fold, refl, sym, ap, ◌∙◌, arith, append_assoc}
use Rattle.std.specs.Prelude.{nat_eq}
use Rattle.std.specs.List.{starts_with}
use Rattle.std.proofs.lemmas.List.{append-nil, length-append}
use Rattle.links.specs.Link.{Read}
use Rattle.h2_frames.specs.declared.fault.H2Fault.{H2Fault}
use Rattle.h2_frames.specs.declared.reader.Next.{Next}
use Rattle.h2_frames.specs.declared.reader.Next.TheVariants as next
use Rattle.h2_frames.specs.Held.{Held, preface_len}
use Rattle.h2_frames.specs.Reading.{preface, preface_next, frame_next, next_of, held_with, frame_need, need_of}
use Rattle.h2_frames.specs.Run.{Fed, nothing_held}
use Rattle.h2_frames.proofs.HeldLemmas.{holding}
use Rattle.h2_frames.proofs.RunLemmas.{lasting, preface_next-none}
use Rattle.h2_record.specs.Record.{Record, Broken}
use Rattle.conn_record.specs.Timeline.{Framing, is_broken, came, fed, byte_in, framing_of}
use Rattle.conn_record.specs.Pieces.{IsUnfinished, PiecesAreFramed, NothingBehindBroken}
use Rattle.conn_record.proofs.Framed.{continued, broken-stays}
use Rattle.conn_record.proofs.Unfinished.{frame-more, frame-wants-less, short-preface, holds-unfinished}

abbrev pub at : Record → Held → List ℕ → ℕ → Framing
at frames held outflow since = record { frames = frames; inflow = held; outflow = outflow; since = since }

module _ (frames : Record) (sound : is_broken frames ≡ false) (outflow : List ℕ) (since : ℕ) where
  -- what was held before a byte is of no account
  same-came : (held other now : Held) (n : Next) → came (at frames held outflow since) now n ≡ came (at frames other outflow since) now n
  same-came held other now (next.Frame frame) = refl
  same-came held other now next.More = refl
  same-came held other now (next.Fault broken) = refl

  pub first-byte : (held : Held) (byte : ℕ) → byte_in (at frames held outflow since) byte ≡ fed (at frames held outflow since) (held_with held (byte ∷ []))
  unfolding byte_in
  first-byte held byte = rw sound refl

  -- ---- behind the preface

  piece-frame : (bytes held : List ℕ) → frame_next held ≡ next.More → length bytes ≤ frame_need held
      → fold byte_in (at frames (holding true held) outflow since) bytes ≡ fed (at frames (holding true held) outflow since) (holding true (held ++ bytes))
  piece-frame [] held more fits = rw (append-nil, more) refl
  piece-frame (b ∷ []) held more fits = first-byte (holding true held) b
  piece-frame (b ∷ c ∷ bytes) held more fits =
      let next-more : frame_next (held ++ b ∷ []) ≡ next.More = frame-more held b more (omega arith) in
      let first : byte_in (at frames (holding true held) outflow since) b ≡ at frames (holding true (held ++ b ∷ [])) outflow since = first-byte (holding true held) b ∙ rw next-more refl in
      let rest = piece-frame (c ∷ bytes) (held ++ b ∷ []) next-more (frame-wants-less held b (length (c ∷ bytes)) (omega arith) (omega arith)) in
      ap (λ (s : Framing). fold byte_in s (c ∷ bytes)) first
      ∙ rest
      ∙ same-came (holding true (held ++ b ∷ [])) (holding true held) (holding true ((held ++ b ∷ []) ++ c ∷ bytes)) (frame_next ((held ++ b ∷ []) ++ c ∷ bytes))
      ∙ ap (λ (xs : List ℕ). fed (at frames (holding true held) outflow since) (holding true xs)) (append_assoc held (b ∷ []) (c ∷ bytes))

  -- ---- inside the preface

  fault-lasts : (held : List ℕ) (piece : List ℕ) (broken : H2Fault) → starts_with nat_eq held preface ≡ false → preface_next held ≡ next.Fault broken → next_of (held_with (holding false held) piece) ≡ next.Fault broken
  fault-lasts held piece broken part e =
      let now : holding false held ≡ held_with nothing_held held = rw part refl in
      lasting (Fed held ∷ []) (holding false held) piece broken (holding false held, (now, refl)) e

  piece-preface : (bytes held : List ℕ) → preface_next held ≡ next.More → length held < preface_len → length held + length bytes ≤ preface_len
      → fold byte_in (at frames (holding false held) outflow since) bytes ≡ fed (at frames (holding false held) outflow since) (held_with (holding false held) bytes)
  piece-preface [] held more part fits =
      let none : starts_with nat_eq held preface ≡ false = short-preface held part in
      rw (append-nil, none, more) refl
  piece-preface (b ∷ []) held more part fits = first-byte (holding false held) b
  piece-preface (b ∷ c ∷ bytes) held more part fits =
      by (λ e. piece-preface (c ∷ bytes) (held ++ b ∷ []) e (omega (arith, length-append held (b ∷ []), fits)) (omega (arith, length-append held (b ∷ []), fits))) (preface_next (held ++ b ∷ [])) refl
    where
      short : length (held ++ b ∷ []) < preface_len
      short = omega (arith, length-append held (b ∷ []), fits)

      none : starts_with nat_eq (held ++ b ∷ []) preface ≡ false
      none = short-preface (held ++ b ∷ []) short

      joined : held_with (holding false (held ++ b ∷ [])) (c ∷ bytes) ≡ held_with (holding false held) (b ∷ c ∷ bytes)
      joined = ap (λ (xs : List ℕ). held_with (holding false []) xs) (append_assoc held (b ∷ []) (c ∷ bytes))

      first : (n : Next) → preface_next (held ++ b ∷ []) ≡ n → byte_in (at frames (holding false held) outflow since) b ≡ came (at frames (holding false held) outflow since) (holding false (held ++ b ∷ [])) n
      first n e = first-byte (holding false held) b ∙ rw (none, e) refl

      by : (preface_next (held ++ b ∷ []) ≡ next.More
          → fold byte_in (at frames (holding false (held ++ b ∷ [])) outflow since) (c ∷ bytes) ≡ fed (at frames (holding false (held ++ b ∷ [])) outflow since) (held_with (holding false (held ++ b ∷ [])) (c ∷ bytes)))
          → (n : Next) → preface_next (held ++ b ∷ []) ≡ n
          → fold byte_in (at frames (holding false held) outflow since) (b ∷ c ∷ bytes) ≡ fed (at frames (holding false held) outflow since) (held_with (holding false held) (b ∷ c ∷ bytes))
      by onward next.More e =
          ap (λ (s : Framing). fold byte_in s (c ∷ bytes)) (first next.More e)
          ∙ onward e
          ∙ same-came (holding false (held ++ b ∷ [])) (holding false held) (held_with (holding false (held ++ b ∷ [])) (c ∷ bytes)) (next_of (held_with (holding false (held ++ b ∷ [])) (c ∷ bytes)))
          ∙ ap (λ (h : Held). fed (at frames (holding false held) outflow since) h) joined
      by onward (next.Fault broken) e =
          let stays : next_of (held_with (holding false held) (b ∷ c ∷ bytes)) ≡ next.Fault broken = ap next_of (sym joined) ∙ fault-lasts (held ++ b ∷ []) (c ∷ bytes) broken none e in
          ap (λ (s : Framing). fold byte_in s (c ∷ bytes)) (first (next.Fault broken) e)
          ∙ broken-stays (c ∷ bytes) (at (Broken broken ∷ frames) nothing_held outflow 0) refl
          ∙ sym (ap (λ (n : Next). came (at frames (holding false held) outflow since) (held_with (holding false held) (b ∷ c ∷ bytes)) n) stays)
      by onward (next.Frame frame) e =
          ap (λ (s : Framing). fold byte_in s (c ∷ bytes)) (first (next.Frame frame) e) ∙ absurd (preface_next-none (held ++ b ∷ []) frame e)

  piece-by : (begun : Bool) (held bytes : List ℕ) → IsUnfinished (holding begun held) → length bytes ≤ need_of (holding begun held)
      → fold byte_in (at frames (holding begun held) outflow since) bytes ≡ fed (at frames (holding begun held) outflow since) (held_with (holding begun held) bytes)
  piece-by true held bytes u fits = piece-frame bytes held u.goes_on fits
  piece-by false held bytes u fits = piece-preface bytes held u.goes_on (omega (arith, u.wants)) (omega (arith, u.wants, fits))

pub pieces-are-framed : PiecesAreFramed
pieces-are-framed log bytes sound fits =
    let s = framing_of log in
    continued log (Read bytes ∷ []) ∙ piece-by s.frames sound s.outflow s.since s.inflow.started s.inflow.bytes bytes (holds-unfinished log) fits

pub nothing-behind-broken : NothingBehindBroken
nothing-behind-broken log bytes broken = continued log (Read bytes ∷ []) ∙ broken-stays bytes (framing_of log) broken
