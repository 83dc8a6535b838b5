-- The pairs of a payload, one after the other.
use Rattle.std.proofs.Common.{◌≡◌, ℕ, ◌<◌, ◌≤◌, List, [], ◌∷◌, ◌++◌, length, take, drop, refl, sym, ap, ◌∙◌, append_assoc, arith}
use Rattle.h2_frames.specs.declared.pairs.Pair.{Pair}
use Rattle.h2_frames.specs.Frame.{pair_of, pairs_of}

pub pairs_of-more : (bytes : List ℕ) → 6 ≤ length bytes → pairs_of bytes ≡ pair_of (take 6 bytes) ∷ pairs_of (drop 6 bytes)
pairs_of-more (a ∷ b ∷ c ∷ d ∷ e ∷ f ∷ bytes) long = refl
pairs_of-more [] long = absurd (omega arith)
pairs_of-more (a ∷ []) long = absurd (omega arith)
pairs_of-more (a ∷ b ∷ []) long = absurd (omega arith)
pairs_of-more (a ∷ b ∷ c ∷ []) long = absurd (omega arith)
pairs_of-more (a ∷ b ∷ c ∷ d ∷ []) long = absurd (omega arith)
pairs_of-more (a ∷ b ∷ c ∷ d ∷ e ∷ []) long = absurd (omega arith)

pub pairs_of-short : (bytes : List ℕ) → length bytes < 6 → pairs_of bytes ≡ []
pairs_of-short (a ∷ b ∷ c ∷ d ∷ e ∷ f ∷ bytes) short = absurd (omega arith)
pairs_of-short [] short = refl
pairs_of-short (a ∷ []) short = refl
pairs_of-short (a ∷ b ∷ []) short = refl
pairs_of-short (a ∷ b ∷ c ∷ []) short = refl
pairs_of-short (a ∷ b ∷ c ∷ d ∷ []) short = refl
pairs_of-short (a ∷ b ∷ c ∷ d ∷ e ∷ []) short = refl

-- one step of the loop over them
pub pairs_step : (pairs : List Pair) (pair : Pair) (rest after payload : List ℕ) → 6 ≤ length rest → pair ≡ pair_of (take 6 rest) → after ≡ drop 6 rest
    → pairs ++ pairs_of rest ≡ pairs_of payload → (pairs ++ pair ∷ []) ++ pairs_of after ≡ pairs_of payload
pairs_step pairs pair rest after payload long is left so_far =
    rw (is, left, append_assoc) (ap (λ (more : List Pair). pairs ++ more) (sym (pairs_of-more rest long)) ∙ so_far)
