-- Where things that stand one behind another start.
use Rattle.std.proofs.Common.{◌≡◌, ℕ, zero, suc, ◌+◌, ◌-◌, ◌<◌, ◌≤◌, true, false, List, [], ◌∷◌, ◌++◌, length, get_or, take, subst, leb, leb-true, arith, ⊎_elim}
use Rattle.std.specs.List.{sum_by}
use Rattle.std.specs.List.Sorted.{IsPartitionPoint, IsNonDecreasingBy}
use Rattle.std.proofs.lemmas.Bool.{leb-false, cases_lt}
use Rattle.std.proofs.lemmas.List.{take-take, take_all}
use Rattle.std.proofs.lemmas.List.Sums.{sum_by-cons, sum_by_more, sum_by-take-le}
use Rattle.row_groups.specs.Starts.{Starting, Covers}

pub start_is : {A : Type 0} (start size : A → ℕ) (at : ℕ) (things : List A) (k : ℕ) (d : A) → Starting start size at things → k < length things →
    start (get_or things k d) ≡ at + sum_by size (take k things)
start_is start size at [] k d s h = absurd (omega arith)
start_is start size at (x ∷ xs) zero d s h = let e : start x ≡ at = s.0 in omega arith
start_is start size at (x ∷ xs) (suc k) d s h =
    let more : start (get_or xs k d) ≡ (at + size x) + sum_by size (take k xs) = start_is start size (at + size x) xs k d s.1 (omega arith) in
    let sum : sum_by size (x ∷ take k xs) ≡ size x + sum_by size (take k xs) = sum_by-cons size x (take k xs) in
    omega arith

pub rises : {A : Type 0} (start size : A → ℕ) (at : ℕ) (things : List A) → Starting start size at things → IsNonDecreasingBy start things
rises {A = A} start size at things s = λ i j d low high.
    let first : start (get_or things i d) ≡ at + sum_by size (take i things) = start_is start size at things i d s (omega arith) in
    let second : start (get_or things j d) ≡ at + sum_by size (take j things) = start_is start size at things j d s high in
    let less : sum_by size (take i (take j things)) ≤ sum_by size (take j things) = sum_by-take-le size (take j things) i in
    let front : sum_by size (take i things) ≤ sum_by size (take j things) = subst (λ (front : List A). sum_by size front ≤ sum_by size (take j things)) (take-take i j things low) less in
    omega arith

-- the starts up to the point found are no higher than the position, and there is one
some_begin : {A : Type 0} (start size : A → ℕ) (at : ℕ) (things : List A) (position i : ℕ) → Starting start size at things → at ≤ position →
    position < at + sum_by size things → IsPartitionPoint (λ y. leb (start y) position ≡ true) (λ y. leb (start y) position ≡ false) things i → 0 < i
some_begin start size at things position (suc i) s low high point = omega arith
some_begin start size at [] position zero s low high point = absurd (omega arith)
some_begin start size at (x ∷ xs) position zero s low high point =
    let behind : position < start x = leb-false _ _ (point.1 0 x (omega arith) (omega arith)) in
    let e : start x ≡ at = s.0 in
    absurd (omega arith)

module _ {A : Type 0} (start size : A → ℕ) (at : ℕ) (things : List A) (position i : ℕ) (s : Starting start size at things) (d : A) where
  ends_before_next : suc i < length things → position < start (get_or things (suc i) d) → position < start (get_or things i d) + size (get_or things i d)
  ends_before_next h behind =
      let first : start (get_or things i d) ≡ at + sum_by size (take i things) = start_is start size at things i d s (omega arith) in
      let next : start (get_or things (suc i) d) ≡ at + sum_by size (take (suc i) things) = start_is start size at things (suc i) d s h in
      let more : sum_by size (take (i + 1) things) ≡ sum_by size (take i things) + size (get_or things i d) = sum_by_more size things i d (omega arith) in
      let one : i + 1 ≡ suc i = omega arith in
      let more' : sum_by size (take (suc i) things) ≡ sum_by size (take i things) + size (get_or things i d) =
      subst (λ (n : ℕ). sum_by size (take n things) ≡ sum_by size (take i things) + size (get_or things i d)) one more in
      omega arith

  ends_at_end : suc i ≡ length things → position < at + sum_by size things → position < start (get_or things i d) + size (get_or things i d)
  ends_at_end h high =
      let first : start (get_or things i d) ≡ at + sum_by size (take i things) = start_is start size at things i d s (omega arith) in
      let more : sum_by size (take (i + 1) things) ≡ sum_by size (take i things) + size (get_or things i d) = sum_by_more size things i d (omega arith) in
      let all : take (i + 1) things ≡ things = take_all (i + 1) things (omega arith) in
      let more' : sum_by size things ≡ sum_by size (take i things) + size (get_or things i d) =
      subst (λ (front : List A). sum_by size front ≡ sum_by size (take i things) + size (get_or things i d)) all more in
      omega arith

covers_at : {A : Type 0} (start size : A → ℕ) (at : ℕ) (things : List A) (position i : ℕ) → Starting start size at things → position < at + sum_by size things →
    IsPartitionPoint (λ y. leb (start y) position ≡ true) (λ y. leb (start y) position ≡ false) things (suc i) → suc i ≤ length things →
    Covers start size things position i
covers_at start size at things position i s high point within = record {
  within = omega arith;
  begins = λ d. leb-true _ _ (point.0 i d (omega arith) (omega arith));
  ends = λ d. ⊎_elim
      (λ h. ends_before_next start size at things position i s d h (leb-false _ _ (point.1 (suc i) d (omega arith) h)))
      (λ h. ends_at_end start size at things position i s d (omega arith) high)
      (cases_lt (suc i) (length things));
}

-- what a binary search over the starts finds
pub covers : {A : Type 0} (start size : A → ℕ) (at : ℕ) (things : List A) (position i : ℕ) → Starting start size at things → at ≤ position →
    position < at + sum_by size things → IsPartitionPoint (λ y. leb (start y) position ≡ true) (λ y. leb (start y) position ≡ false) things i →
    i ≤ length things → (1 ≤ i) × Covers start size things position (i - 1)
covers start size at things position zero s low high point within =
    let some : 0 < 0 = some_begin start size at things position zero s low high point in absurd (omega arith)
covers start size at things position (suc i) s low high point within =
    let one : i ≡ suc i - 1 = omega arith in
    (omega arith, subst (λ (n : ℕ). Covers start size things position n) one (covers_at start size at things position i s high point within))

-- one more behind the others
pub Starting-push : {A : Type 0} (start size : A → ℕ) (at : ℕ) (things : List A) (x : A) → Starting start size at things → start x ≡ at + sum_by size things →
    Starting start size at (things ++ x ∷ [])
Starting-push start size at [] x s e = (omega arith, tt)
Starting-push start size at (y ∷ ys) x s e =
    let sum : sum_by size (y ∷ ys) ≡ size y + sum_by size ys = sum_by-cons size y ys in
    (s.0, Starting-push start size (at + size y) ys x s.1 (omega arith))
