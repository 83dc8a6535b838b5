-- The rules of a connection, one at a time.
use Rattle.std.proofs.Common.{◌≡◌, ℕ, ◌%◌, ◌==◌, Bool, true, false, not, ◌&&◌, ◌+◌, ◌<◌, List, [], ◌∷◌, length, drop, get_or, Option, None, Some, refl, sym, ap, ◌∙◌, add-one, drop-cons}
use Rattle.std.proofs.lemmas.Bool.{eqb-true}
use Rattle.std.specs.Option.{option_or}
use Rattle.h2_frames.specs.declared.fault.H2Fault.{H2Fault}
use Rattle.h2_frames.specs.declared.pairs.Pair.{Pair}
use Rattle.h2_record.specs.Rules.{pair_code, pairs_code, first_broken, broken, code_if, preface_code, is_outside, settings_code, even_code, idle_code, zero_code}
use Rattle.h2_frames.specs.declared.frame.Frame.TheVariants as frames
use Rattle.h2_record.specs.Live.{is_idle_above}
use Rattle.h2_record.specs.declared.block.OpenBlock.{OpenBlock}
use Rattle.h2_frames.specs.declared.frame.Frame.{Frame}
use Rattle.h2_record.specs.Early.{early_fault}

-- the pairs from the i-th on
pub pairs_code-drop : (pairs : List Pair) (i : ℕ) (d : Pair) → i < length pairs
    → pairs_code (drop i pairs) ≡ option_or (pair_code (get_or pairs i d)) (pairs_code (drop (i + 1) pairs))
pairs_code-drop pairs i d below = rw (add-one, drop-cons pairs i d)

-- the first of six, from the left and from the right
or-first : (a b c d e f : Option H2Fault)
    → option_or (option_or (option_or (option_or (option_or a b) c) d) e) f ≡ first_broken (a ∷ b ∷ c ∷ d ∷ e ∷ f ∷ [])
or-first (Some x) b c d e f = refl
or-first None (Some x) c d e f = refl
or-first None None (Some x) d e f = refl
or-first None None None (Some x) e f = refl
or-first None None None None (Some x) f = refl
or-first None None None None None (Some x) = refl
or-first None None None None None None = refl

-- the early rules, from the left
pub early-left : (begun : Bool) (block : Option OpenBlock) (last : ℕ) (frame : Frame)
    → option_or (option_or (option_or (option_or (option_or
    (broken 7 (preface_code begun frame)) (broken 8 (code_if (is_outside block frame) 1))) (broken 9 (settings_code frame)))
    (broken 11 (even_code frame))) (broken 12 (idle_code last frame))) (broken 13 (zero_code frame))
    ≡ early_fault begun block last frame
unfolding early_fault
early-left begun block last frame = or-first
    (broken 7 (preface_code begun frame)) (broken 8 (code_if (is_outside block frame) 1)) (broken 9 (settings_code frame))
    (broken 11 (even_code frame)) (broken 12 (idle_code last frame)) (broken 13 (zero_code frame))

-- where none of six is broken, none is
first-none : (a b c d e f : Option H2Fault) → first_broken (a ∷ b ∷ c ∷ d ∷ e ∷ f ∷ []) ≡ None → (d ≡ None) × (e ≡ None) × (c ≡ None) × (b ≡ None)
first-none None None None None None f h = (refl, refl, refl, refl)
first-none (Some x) b c d e f h = absurd (cc)
first-none None (Some x) c d e f h = absurd (cc)
first-none None None (Some x) d e f h = absurd (cc)
first-none None None None (Some x) e f h = absurd (cc)
first-none None None None None (Some x) f h = absurd (cc)

unbroken-code : (rule : ℕ) (code : Option ℕ) → broken rule code ≡ None → code ≡ None
unbroken-code rule None h = refl
unbroken-code rule (Some code) h = absurd (cc)

unbroken : (rule : ℕ) (holds : Bool) (code : ℕ) → broken rule (code_if holds code) ≡ None → holds ≡ false
unbroken rule true code h = absurd (cc)
unbroken rule false code h = refl

module _ (begun : Bool) (block : Option OpenBlock) (last : ℕ) where
  pub not-even : (stream : ℕ) (end whole : Bool) (fragment : List ℕ) → early_fault begun block last (frames.Headers stream end whole fragment) ≡ None → (stream % 2 == 0) ≡ false
  unfolding early_fault
  not-even stream end whole fragment h =
      let f = frames.Headers stream end whole fragment in
      unbroken 11 (stream % 2 == 0) 1 (first-none (broken 7 (preface_code begun f)) (broken 8 (code_if (is_outside block f) 1)) None (broken 11 (even_code f)) None None h).0

  pub good-pairs : (pairs : List Pair) → early_fault begun block last (frames.Settings false pairs) ≡ None → pairs_code pairs ≡ None
  unfolding early_fault
  good-pairs pairs h =
      let f = frames.Settings false pairs in
      unbroken-code 9 (pairs_code pairs) (first-none (broken 7 (preface_code begun f)) (broken 8 (code_if (is_outside block f) 1)) (broken 9 (settings_code f)) None None None h).2

  pub inside : (stream : ℕ) (whole : Bool) (fragment : List ℕ) → early_fault begun block last (frames.Continuation stream whole fragment) ≡ None → is_outside block (frames.Continuation stream whole fragment) ≡ false
  unfolding early_fault
  inside stream whole fragment h =
      let f = frames.Continuation stream whole fragment in
      unbroken 8 (is_outside block f) 1 (first-none (broken 7 (preface_code begun f)) (broken 8 (code_if (is_outside block f) 1)) None None None None h).3

  pub body-begun : (stream : ℕ) (end : Bool) (bytes : List ℕ) (counted : ℕ) → early_fault begun block last (frames.Body stream end bytes counted) ≡ None → is_idle_above last stream ≡ false
  unfolding early_fault
  body-begun stream end bytes counted h =
      let f = frames.Body stream end bytes counted in
      unbroken 12 (is_idle_above last stream) 1 (first-none (broken 7 (preface_code begun f)) (broken 8 (code_if (is_outside block f) 1)) None None (broken 12 (idle_code last f)) None h).1

  pub reset-begun : (stream code : ℕ) → early_fault begun block last (frames.Reset stream code) ≡ None → is_idle_above last stream ≡ false
  unfolding early_fault
  reset-begun stream code h =
      let f = frames.Reset stream code in
      unbroken 12 (is_idle_above last stream) 1 (first-none (broken 7 (preface_code begun f)) (broken 8 (code_if (is_outside block f) 1)) None None (broken 12 (idle_code last f)) None h).1

  pub window-begun : (stream add : ℕ) → early_fault begun block last (frames.Window stream add) ≡ None → (not (stream == 0) && is_idle_above last stream) ≡ false
  unfolding early_fault
  window-begun stream add h =
      let f = frames.Window stream add in
      unbroken 12 (not (stream == 0) && is_idle_above last stream) 1
      (first-none (broken 7 (preface_code begun f)) (broken 8 (code_if (is_outside block f) 1)) None None (broken 12 (idle_code last f)) (broken 13 (zero_code f)) h).1

-- CONTINUATION comes inside a block of its stream
pub is-inside : (block : Option OpenBlock) (stream : ℕ) (whole : Bool) (fragment : List ℕ) (open_block : OpenBlock) → is_outside block (frames.Continuation stream whole fragment) ≡ false → block ≡ Some open_block → open_block.stream ≡ stream
is-inside block stream whole fragment open_block within here =
    let apart : not (open_block.stream == stream) ≡ false = sym (ap (λ b. is_outside b (frames.Continuation stream whole fragment)) here) ∙ within in
    by (open_block.stream == stream) refl apart
  where
    by : (b : Bool) → (open_block.stream == stream) ≡ b → not b ≡ false → open_block.stream ≡ stream
    by true same h = eqb-true open_block.stream stream same
    by false same h = absurd (cc)

pub none-outside : (block : Option OpenBlock) (stream : ℕ) (whole : Bool) (fragment : List ℕ) → is_outside block (frames.Continuation stream whole fragment) ≡ false → block ≡ None → ⊥
none-outside block stream whole fragment within none = let h : true ≡ false = sym (ap (λ b. is_outside b (frames.Continuation stream whole fragment)) none) ∙ within in absurd (cc)
