-- Slices that wait, and their first rows.
use Rattle.std.proofs.Common.{◌≡◌, ℕ, zero, suc, ◌-◌, ◌<◌, ◌≤◌, List, [], ◌∷◌, ◌++◌, length, take, drop, get_or, set, refl, sym, ap, ◌∙◌, arith, append_assoc}
use Rattle.std.proofs.lemmas.List.{append-nil, take-append-le, drop-append-le}
use Rattle.std.proofs.lemmas.List.Concat.{flat_map-append}
use Rattle.row_groups.specs.Places.{joined}

pub joined-push : {A : Type 0} (groups : List (List A)) (group : List A) → joined (groups ++ group ∷ []) ≡ joined groups ++ group
joined-push groups group = flat_map-append (λ g. g) groups (group ∷ []) ∙ ap (λ rows. joined groups ++ rows) (append-nil group)

take-behind : {A : Type 0} (xs ys : List A) (n : ℕ) → length xs ≤ n → take n (xs ++ ys) ≡ xs ++ take (n - length xs) ys
take-behind [] ys n h = let same : n - 0 ≡ n = omega arith in ap (λ k. take k ys) (sym same)
take-behind (x ∷ xs) ys zero h = absurd (omega arith)
take-behind (x ∷ xs) ys (suc n) h =
    let same : suc n - length (x ∷ xs) ≡ n - length xs = omega arith in
    ap (λ rest. x ∷ rest) (take-behind xs ys n (omega arith) ∙ ap (λ k. xs ++ take k ys) (sym same))

drop-behind : {A : Type 0} (xs ys : List A) (n : ℕ) → length xs ≤ n → drop n (xs ++ ys) ≡ drop (n - length xs) ys
drop-behind [] ys n h = let same : n - 0 ≡ n = omega arith in ap (λ k. drop k ys) (sym same)
drop-behind (x ∷ xs) ys zero h = absurd (omega arith)
drop-behind (x ∷ xs) ys (suc n) h =
    let same : suc n - length (x ∷ xs) ≡ n - length xs = omega arith in
    drop-behind xs ys n (omega arith) ∙ ap (λ k. drop k ys) (sym same)

-- a slice of no more rows than are wanted is moved whole
pub first_whole : {A : Type 0} (moved rest : List (List A)) (x : List A) (left : ℕ) → length x ≤ left
    → joined (moved ++ x ∷ []) ++ take (left - length x) (joined rest) ≡ joined moved ++ take left (joined (x ∷ rest))
first_whole moved rest x left h =
    ap (λ rows. rows ++ take (left - length x) (joined rest)) (joined-push moved x)
    ∙ append_assoc (joined moved) x (take (left - length x) (joined rest))
    ∙ ap (λ rows. joined moved ++ rows) (sym (take-behind x (joined rest) left h))

-- of a longer one its first rows are
pub first_cut : {A : Type 0} (moved rest : List (List A)) (x : List A) (left : ℕ) → left < length x
    → joined (moved ++ take left x ∷ []) ≡ joined moved ++ take left (joined (x ∷ rest))
first_cut moved rest x left h =
    joined-push moved (take left x) ∙ ap (λ rows. joined moved ++ rows) (sym (take-append-le left x (joined rest) (omega (arith, h))))

pub skip_whole : {A : Type 0} (rest : List (List A)) (x : List A) (left : ℕ) → length x ≤ left → drop (left - length x) (joined rest) ≡ drop left (joined (x ∷ rest))
skip_whole rest x left h = sym (drop-behind x (joined rest) left h)

pub skip_cut : {A : Type 0} (rest : List (List A)) (x : List A) (left : ℕ) → left < length x → joined (drop left x ∷ rest) ≡ drop left (joined (x ∷ rest))
skip_cut rest x left h = sym (drop-append-le left x (joined rest) (omega (arith, h)))

drop-nil : {A : Type 0} (n : ℕ) → drop {A = A} n [] ≡ []
drop-nil zero = refl
drop-nil (suc n) = refl

-- the first slice leaves, when it isn't longer than what is left
pub skip_first_whole : {A : Type 0} (slices rest : List (List A)) (x : List A) (left : ℕ) → x ≡ get_or slices 0 x → rest ≡ drop 1 (set slices 0 x) → length x ≤ left
    → drop (left - length x) (joined rest) ≡ drop left (joined slices)
skip_first_whole [] rest x left first behind h =
    ap (λ slices. drop (left - length x) (joined slices)) behind ∙ drop-nil (left - length x) ∙ sym (drop-nil left)
skip_first_whole (y ∷ ys) rest x left first behind h =
    ap (λ slices. drop (left - length x) (joined slices)) behind ∙ skip_whole ys x left h ∙ ap (λ z. drop left (z ++ joined ys)) first
