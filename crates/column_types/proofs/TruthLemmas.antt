-- AND and OR as the lesser and the greater of two truths. There are three truths, so each law is tried at all of them.
use Rattle.std.proofs.Common.{◌≡◌, Bool, true, false, refl}
use Rattle.std.specs.Prelude.{not, ◌&&◌, ◌||◌}
use Rattle.std.proofs.lemmas.Bool.{and_parts}
use Rattle.column_types.specs.declared.truths.Truth.{Truth}
use Rattle.column_types.specs.declared.truths.Truth.TheVariants as truth
use Rattle.column_types.specs.Truth.{and_of, or_of}

-- a truth between two bounds
abbrev pub between : Truth → Truth → Truth → Truth
between low high held = or_of low (and_of high held)

abbrev same : Truth → Truth → Bool
same truth.Yes truth.Yes = true
same truth.No truth.No = true
same truth.Unknown truth.Unknown = true
same _ _ = false

same_is : (a b : Truth) → same a b ≡ true → a ≡ b
same_is truth.Yes truth.Yes e = refl
same_is truth.Yes truth.No e = cc
same_is truth.Yes truth.Unknown e = cc
same_is truth.No truth.Yes e = cc
same_is truth.No truth.No e = refl
same_is truth.No truth.Unknown e = cc
same_is truth.Unknown truth.Yes e = cc
same_is truth.Unknown truth.No e = cc
same_is truth.Unknown truth.Unknown e = refl

same_refl : (a : Truth) → same a a ≡ true
same_refl truth.Yes = refl
same_refl truth.No = refl
same_refl truth.Unknown = refl

abbrev every : (Truth → Bool) → Bool
every test = test truth.Yes && (test truth.No && test truth.Unknown)

every_at : (test : Truth → Bool) → every test ≡ true → (t : Truth) → test t ≡ true
every_at test e truth.Yes = (and_parts _ _ e).0
every_at test e truth.No = (and_parts _ _ (and_parts _ _ e).1).0
every_at test e truth.Unknown = (and_parts _ _ (and_parts _ _ e).1).1

abbrev and_law : Truth → Truth → Truth → Truth → Bool
and_law low high left right = same (between low high (and_of left right)) (between low (and_of high right) left)

pub between-and : (low high left right : Truth) → between low high (and_of left right) ≡ between low (and_of high right) left
between-and low high left right =
    same_is _ _
    (every_at (λ d. and_law low high left d)
    (every_at (λ c. every (λ d. and_law low high c d))
    (every_at (λ b. every (λ c. every (λ d. and_law low b c d)))
    (every_at (λ a. every (λ b. every (λ c. every (λ d. and_law a b c d)))) refl low) high) left) right)

abbrev or_law : Truth → Truth → Truth → Truth → Bool
or_law low high left right = same (between low high (or_of left right)) (between (or_of low (and_of high right)) high left)

pub between-or : (low high left right : Truth) → between low high (or_of left right) ≡ between (or_of low (and_of high right)) high left
between-or low high left right =
    same_is _ _
    (every_at (λ d. or_law low high left d)
    (every_at (λ c. every (λ d. or_law low high c d))
    (every_at (λ b. every (λ c. every (λ d. or_law low b c d)))
    (every_at (λ a. every (λ b. every (λ c. every (λ d. or_law a b c d)))) refl low) high) left) right)

abbrev met_law : Truth → Truth → Truth → Bool
met_law low high held = not (same (or_of low high) low) || same (between low high held) low

met : (b c : Bool) → (not b || c) ≡ true → b ≡ true → c ≡ true
met true c e h = e
met false c e h = cc

-- bounds that meet leave no choice
pub between-met : (low high held : Truth) → or_of low high ≡ low → between low high held ≡ low
between-met low high held e =
    same_is _ _
    (met (same (or_of low high) low) (same (between low high held) low)
    (every_at (λ c. met_law low high c)
    (every_at (λ b. every (λ c. met_law low b c)) (every_at (λ a. every (λ b. every (λ c. met_law a b c))) refl low) high) held)
    (rw e (same_refl low)))
