-- Places in groups.
use Rattle.std.proofs.Common.{◌≡◌, ℕ, zero, suc, ◌+◌, ◌<◌, List, [], ◌∷◌, ◌++◌, length, get_or, take, drop, refl, ap, sym, subst, ◌∙◌, arith, length-append, suc-add}
use Rattle.std.specs.List.{slice_get}
use Rattle.std.proofs.lemmas.List.{take_at, get_or_at, take-append-drop, drop_more, get_or_append_left, take-append-le}
use Rattle.row_groups.specs.Places.{joined, group_at, IsPlace}

-- a group that stands behind others
pub place_behind : {A : Type 0} (groups before : List (List A)) (group : List A) (after : List (List A)) (place : ℕ) → groups ≡ before ++ group ∷ after →
    place < length group → IsPlace groups (length (joined before) + place) (length before) place
place_behind groups before group after place e h =
    subst (λ (all : List (List _)). IsPlace all (length (joined before) + place) (length before) place) (sym e) (record {
      within = rw (get_or_at before group after [] (length before) refl) h;
      counted = ap (λ (front : List (List _)). length (joined front) + place) (take_at before (group ∷ after) (length before) refl);
    })

-- a list around the item of this number
pub split_at : {A : Type 0} (xs : List A) (k : ℕ) (d : A) → k < length xs → xs ≡ take k xs ++ get_or xs k d ∷ drop (k + 1) xs
split_at xs k d h = sym (take-append-drop k xs) ∙ ap (λ (rest : List _). take k xs ++ rest) (drop_more xs k d h)

-- a group with a place in it is there
pub there : {A : Type 0} (groups : List (List A)) (group place : ℕ) → place < length (group_at groups group) → group < length groups
there [] group place h = absurd (omega arith)
there (first ∷ more) zero place h = omega arith
there (first ∷ more) (suc group) place h = let t : group < length more = there more group place h in omega arith

get_behind : {A : Type 0} (xs ys : List A) (k : ℕ) → slice_get (xs ++ ys) (length xs + k) ≡ slice_get ys k
get_behind [] ys k = let none : 0 + k ≡ k = omega arith in ap (slice_get ys) none
get_behind (x ∷ xs) ys k = rw (suc-add (length xs) k) (get_behind xs ys k)

get_before : {A : Type 0} (xs ys : List A) (k : ℕ) → k < length xs → slice_get (xs ++ ys) k ≡ slice_get xs k
get_before [] ys k h = absurd (omega arith)
get_before (x ∷ xs) ys zero h = refl
get_before (x ∷ xs) ys (suc k) h = get_before xs ys k (omega arith)

-- the row at a place is the row at the position
pub row_here : {A : Type 0} (groups : List (List A)) (group place : ℕ) → place < length (group_at groups group) →
    slice_get (joined groups) (length (joined (take group groups)) + place) ≡ slice_get (group_at groups group) place
row_here [] group place h = absurd (omega arith)
row_here (first ∷ more) zero place h =
    let none : place ≡ 0 + place = omega arith in
    subst (λ (at : ℕ). slice_get (first ++ joined more) at ≡ slice_get first place) none (get_before first (joined more) place h)
row_here (first ∷ more) (suc group) place h =
    let split : length (first ++ joined (take group more)) + place ≡ length first + (length (joined (take group more)) + place) = omega (arith, length-append first (joined (take group more))) in
    rw split (get_behind first (joined more) (length (joined (take group more)) + place) ∙ row_here more group place h)

pub row_at_place : {A : Type 0} (groups : List (List A)) (position group place : ℕ) → IsPlace groups position group place →
    slice_get (joined groups) position ≡ slice_get (group_at groups group) place
row_at_place groups position group place p =
    subst (λ (at : ℕ). slice_get (joined groups) at ≡ slice_get (group_at groups group) place) p.counted (row_here groups group place p.within)

below_all : {A : Type 0} (groups : List (List A)) (group place : ℕ) → place < length (group_at groups group) →
    length (joined (take group groups)) + place < length (joined groups)
below_all [] group place h = absurd (omega arith)
below_all (first ∷ more) zero place h = omega (arith, length-append first (joined more))
below_all (first ∷ more) (suc group) place h =
    let rest : length (joined (take group more)) + place < length (joined more) = below_all more group place h in
    omega (arith, length-append first (joined (take group more)), length-append first (joined more))

pub place_below : {A : Type 0} (groups : List (List A)) (position group place : ℕ) → IsPlace groups position group place → position < length (joined groups)
place_below groups position group place p = subst (λ (at : ℕ). at < length (joined groups)) p.counted (below_all groups group place p.within)

same_place : {A : Type 0} (groups : List (List A)) (g p g' p' : ℕ) → p < length (group_at groups g) → p' < length (group_at groups g') →
    length (joined (take g groups)) + p ≡ length (joined (take g' groups)) + p' → (g ≡ g') × (p ≡ p')
same_place [] g p g' p' h h' e = absurd (omega arith)
same_place (first ∷ more) zero p zero p' h h' e = (refl, omega arith)
same_place (first ∷ more) zero p (suc g') p' h h' e = absurd (omega (arith, length-append first (joined (take g' more))))
same_place (first ∷ more) (suc g) p zero p' h h' e = absurd (omega (arith, length-append first (joined (take g more))))
same_place (first ∷ more) (suc g) p (suc g') p' h h' e =
    let rest : (g ≡ g') × (p ≡ p') = same_place more g p g' p' h h' (omega (arith, length-append first (joined (take g more)), length-append first (joined (take g' more)))) in
    (ap suc rest.0, rest.1)

pub one_place : {A : Type 0} (groups : List (List A)) (position g p g' p' : ℕ) → IsPlace groups position g p → IsPlace groups position g' p' → (g ≡ g') × (p ≡ p')
one_place groups position g p g' p' a b = same_place groups g p g' p' a.within b.within (a.counted ∙ sym b.counted)

-- a place stays when groups are pushed
pub place_stays : {A : Type 0} (groups more : List (List A)) (position group place : ℕ) → IsPlace groups position group place → IsPlace (groups ++ more) position group place
place_stays groups more position group place p =
    let h : group < length groups = there groups group place p.within in
    record {
      within = rw (get_or_append_left groups more [] group h) p.within;
      counted = ap (λ (front : List (List _)). length (joined front) + place) (take-append-le group groups more (omega arith)) ∙ p.counted;
    }
