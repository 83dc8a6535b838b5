-- How a list is cut into parts, and how many rows a part takes.
use Rattle.std.proofs.Common.{◌≡◌, ◌⊎◌, inl, inr, ℕ, zero, suc, ◌+◌, ◌-◌, ◌<◌, ◌≤◌, List, [], ◌∷◌, ◌++◌, length, take, drop, refl, ap, sym, subst, ◌∙◌, arith}
use Rattle.std.specs.Prelude.{min, max}
use Rattle.std.specs.List.{sum_by, AllByRecursion}
use Rattle.std.proofs.lemmas.Bool.{cases_lt, le-leb, lt-leb}
use Rattle.std.proofs.lemmas.List.{length-drop, take-append-drop}
use Rattle.std.proofs.lemmas.List.Sums.{sum_by-cons}
use Rattle.row_groups.specs.Places.{joined}
use Rattle.row_responses.specs.Cut.{fitting, parts_from, cut}

parts_behind : {A : Type 0} (next : List A → ℕ) (items : List A) (given : ℕ) → parts_from next items given ≡ parts_from next (drop given items) 0
unfolding parts_from
parts_behind next [] zero = refl
parts_behind next [] (suc given) = refl
parts_behind next (item ∷ more) zero = refl
parts_behind next (item ∷ more) (suc given) = parts_behind next more given

drop_behind : {A : Type 0} (item : A) (more : List A) (n : ℕ) → 1 ≤ n → drop (n - 1) more ≡ drop n (item ∷ more)
drop_behind item more zero low = absurd (omega arith)
drop_behind item more (suc n) low = let same : suc n - 1 ≡ n = omega arith in ap (λ (k : ℕ). drop k more) same

pub cut_none : {A : Type 0} (next : List A → ℕ) → cut next [] ≡ []
unfolding parts_from
cut_none next = refl

-- the first part, and those of the items behind it
pub cut_step : {A : Type 0} (next : List A → ℕ) (items : List A) → 0 < length items → 1 ≤ next items →
    cut next items ≡ take (next items) items ∷ cut next (drop (next items) items)
unfolding parts_from
cut_step next [] some low = absurd (omega arith)
cut_step {A} next (item ∷ more) some low =
    ap (λ (rest : List (List A)). take (next (item ∷ more)) (item ∷ more) ∷ rest)
    (parts_behind next more (next (item ∷ more) - 1) ∙ ap (λ (items : List A). parts_from next items 0) (drop_behind item more (next (item ∷ more)) low))

-- the parts join to the items
pub cut_whole : {A : Type 0} (next : List A → ℕ) (steps : ℕ) (items : List A) → length items ≤ steps → ((items : List A) → 1 ≤ next items) → joined (cut next items) ≡ items
cut_whole next steps [] few low = ap joined (cut_none next)
cut_whole next zero (item ∷ more) few low = absurd (omega arith)
cut_whole {A} next (suc steps) (item ∷ more) few low =
    let n : ℕ = next (item ∷ more) in
    let one : 1 ≤ n = low (item ∷ more) in
    let rest : joined (cut next (drop n (item ∷ more))) ≡ drop n (item ∷ more) = cut_whole next steps (drop n (item ∷ more)) (omega (arith, length-drop n (item ∷ more))) low in
    ap joined (cut_step next (item ∷ more) (omega arith) one) ∙ ap (λ (back : List A). take n (item ∷ more) ++ back) rest ∙ take-append-drop n (item ∷ more)

-- what holds of each part that is taken holds of all
pub cut_each : {A : Type 0} (Good : List A → Type 0) (next : List A → ℕ) (steps : ℕ) (items : List A) → length items ≤ steps → ((items : List A) → 1 ≤ next items) →
    ((items : List A) → 0 < length items → Good (take (next items) items)) → AllByRecursion Good (cut next items)
cut_each Good next steps [] few low good = subst (AllByRecursion Good) (sym (cut_none next)) _
cut_each Good next zero (item ∷ more) few low good = absurd (omega arith)
cut_each {A} Good next (suc steps) (item ∷ more) few low good =
    let n : ℕ = next (item ∷ more) in
    let one : 1 ≤ n = low (item ∷ more) in
    let rest : AllByRecursion Good (cut next (drop n (item ∷ more))) = cut_each Good next steps (drop n (item ∷ more)) (omega (arith, length-drop n (item ∷ more))) low good in
    subst (AllByRecursion Good) (sym (cut_step next (item ∷ more) (omega arith) one)) (good (item ∷ more) (omega arith), rest)

fits_more : {A : Type 0} (size : A → ℕ) (item : A) (more : List A) (room : ℕ) → size item ≤ room → fitting size (item ∷ more) room ≡ suc (fitting size more (room - size item))
unfolding fitting
fits_more size item more room h = rw (le-leb (size item) room h) refl

fits_none : {A : Type 0} (size : A → ℕ) (item : A) (more : List A) (room : ℕ) → room < size item → fitting size (item ∷ more) room ≡ 0
unfolding fitting
fits_none size item more room h = rw (lt-leb (size item) room h) refl

fits_empty : {A : Type 0} (size : A → ℕ) (room : ℕ) → fitting size [] room ≡ 0
unfolding fitting
fits_empty size room = refl

-- so many items fit as are together within the size

within_step : {A : Type 0} (size : A → ℕ) (item : A) (more : List A) (room n : ℕ) → suc n ≤ fitting size (item ∷ more) room →
    (n ≤ fitting size more (room - size item) → (n ≤ length more) × (sum_by size (take n more) ≤ room - size item)) →
    (room < size item) ⊎ (size item ≤ room) → (suc n ≤ length (item ∷ more)) × (sum_by size (take (suc n) (item ∷ more)) ≤ room)
within_step size item more room n h behind (inl large) = absurd (omega (arith, fits_none size item more room large))
within_step size item more room n h behind (inr small) =
    let rest : (n ≤ length more) × (sum_by size (take n more) ≤ room - size item) = behind (omega (arith, fits_more size item more room small)) in
    (omega (arith, rest.0), omega (arith, rest.1, sum_by-cons size item (take n more)))

pub fits_within : {A : Type 0} (size : A → ℕ) (items : List A) (room n : ℕ) → n ≤ fitting size items room → (n ≤ length items) × (sum_by size (take n items) ≤ room)
fits_within size items room zero h = (omega arith, omega arith)
fits_within size [] room (suc n) h = absurd (omega (arith, fits_empty size room))
fits_within size (item ∷ more) room (suc n) h = within_step size item more room n h (fits_within size more (room - size item) n) (cases_lt room (size item))

pub within_fits : {A : Type 0} (size : A → ℕ) (items : List A) (room n : ℕ) → n ≤ length items → sum_by size (take n items) ≤ room → n ≤ fitting size items room
within_fits size items room zero h small = omega arith
within_fits size [] room (suc n) h small = absurd (omega arith)
within_fits size (item ∷ more) room (suc n) h small =
    let whole : size item + sum_by size (take n more) ≤ room = omega (arith, small, sum_by-cons size item (take n more)) in
    let rest : n ≤ fitting size more (room - size item) = within_fits size more (room - size item) n (omega arith) (omega arith) in
    omega (arith, rest, fits_more size item more room (omega arith))

at_least : {A : Type 0} (size : A → ℕ) (items : List A) (room n : ℕ) → n ≤ length items → (n ≡ 1) ⊎ (sum_by size (take n items) ≤ room) → (n ≡ 1) ⊎ (n ≤ fitting size items room)
at_least size items room n there (inl one) = inl one
at_least size items room n there (inr small) = inr (within_fits size items room n there small)

taken_full : {A : Type 0} (size : A → ℕ) (items : List A) (most room n : ℕ) → 1 ≤ n → n ≤ most → n < fitting size items room →
    (n < most → n < length items → room < sum_by size (take (n + 1) items)) → (n < most) ⊎ (most ≤ n) → n ≡ max 1 (min most (fitting size items room))
taken_full size items most room n low high many large (inr full) = omega arith
taken_full size items most room n low high many large (inl given) =
    let more : (n + 1 ≤ length items) × (sum_by size (take (n + 1) items) ≤ room) = fits_within size items room (n + 1) (omega arith) in
    let beyond : room < sum_by size (take (n + 1) items) = large given (omega (arith, more.0)) in
    absurd (omega (arith, more.1))

taken_few : (most fit n : ℕ) → 1 ≤ n → n ≤ most → fit ≤ n → (n ≡ 1) ⊎ (n ≤ fit) → n ≡ max 1 (min most fit)
taken_few most fit n low high few (inl one) = omega arith
taken_few most fit n low high few (inr least) = omega arith

taken_by : {A : Type 0} (size : A → ℕ) (items : List A) (most room n : ℕ) → 1 ≤ n → n ≤ most → (n ≡ 1) ⊎ (n ≤ fitting size items room) →
    (n < most → n < length items → room < sum_by size (take (n + 1) items)) → (n < fitting size items room) ⊎ (fitting size items room ≤ n) →
    n ≡ max 1 (min most (fitting size items room))
taken_by size items most room n low high least large (inr few) = taken_few most (fitting size items room) n low high few least
taken_by size items most room n low high least large (inl many) = taken_full size items most room n low high many large (cases_lt n most)

-- How many a part takes: n, where n items are one or within the room, and one more isn't allowed, isn't there or is beyond the room.
pub taken_is : {A : Type 0} (size : A → ℕ) (items : List A) (most room n : ℕ) → 1 ≤ n → n ≤ most → n ≤ length items → (n ≡ 1) ⊎ (sum_by size (take n items) ≤ room) →
    (n < most → n < length items → room < sum_by size (take (n + 1) items)) → n ≡ max 1 (min most (fitting size items room))
taken_is size items most room n low high there small large =
    taken_by size items most room n low high (at_least size items room n there small) large (cases_lt n (fitting size items room))
