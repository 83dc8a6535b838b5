-- What a walk has passed, row by row.
use mir.Val.{bool_byte}
use Rattle.std.proofs.Common.{◌≡◌, ℕ, zero, suc, ◌+◌, ◌-◌, ◌<◌, ◌≤◌, Bool, true, false, cond, List, [], ◌∷◌, ◌++◌, length, length-append, get_or, take, drop, Some, refl, ap, sym, subst, ◌∙◌, arith}
use Rattle.std.specs.Prelude.{slice_get, filter}
use Rattle.std.specs.List.{AllByRecursion}
use Rattle.std.proofs.lemmas.List.{append_assoc, length-take, length-drop, get_or-drop, take-append-drop, take-take}
use Rattle.std.proofs.lemmas.List.Elements.{filter-append, filter_more}
use Rattle.std.proofs.lemmas.List.Filters.{length-filter_more}
use Rattle.std.proofs.lemmas.List.Sums.{length-filter, count_by-le-length}
use Rattle.std.proofs.lemmas.Option.{slice_get-get_or, slice_get_within, same_Some}
use Rattle.column_types.specs.declared.cell.Cell.{Cell}
use Rattle.row_groups.specs.Places.{joined, group_at, IsPlace, HasRows}
use Rattle.row_groups.proofs.PlaceLemmas.{row_at_place, place_below}
use Rattle.read_cursor.specs.declared.found.Place.{Place}
use Rattle.read_cursor.specs.Lease.{Leased, between, keeps, matching}
use Rattle.read_cursor.specs.Reading.{Walks, IsMatch}

-- a test as a number
pub from_is : (b : Bool) → bool_byte b ≡ cond b 1 0
from_is true = refl
from_is false = refl

pub from_small : (b : Bool) (n : ℕ) → n ≡ bool_byte b → n ≤ 1
from_small true n e = let one : n ≡ 1 = e in omega arith
from_small false n e = let none : n ≡ 0 = e in omega arith

get_at : {A : Type 0} (front : List A) (x : A) (rest : List A) → slice_get (front ++ x ∷ rest) (length front) ≡ Some x
get_at [] x rest = refl
get_at (y ∷ more) x rest = get_at more x rest

module _ {A : Type 0} (keep : A → Bool) (rows : List A) (lo hi position : ℕ) (low : lo ≤ position) (more : position < hi) (within : hi ≤ length rows) (d : A) where
  -- one more position
  count_more : length (filter keep (between lo (position + 1) rows)) ≡ length (filter keep (between lo position rows)) + cond (keep (get_or rows position d)) 1 0
  count_more =
      let here : lo + (position - lo) ≡ position = omega arith in
      let one : (position - lo) + 1 ≡ position + 1 - lo = omega arith in
      let item : get_or (drop lo rows) (position - lo) d ≡ get_or rows position d = get_or-drop lo rows (position - lo) d ∙ ap (λ (n : ℕ). get_or rows n d) here in
      let step : length (filter keep (take ((position - lo) + 1) (drop lo rows))) ≡ length (filter keep (take (position - lo) (drop lo rows))) + cond (keep (get_or (drop lo rows) (position - lo) d)) 1 0 =
      length-filter_more keep (drop lo rows) (position - lo) d (omega (arith, length-drop lo rows)) in
      let step' : length (filter keep (take ((position - lo) + 1) (drop lo rows))) ≡ length (filter keep (take (position - lo) (drop lo rows))) + cond (keep (get_or rows position d)) 1 0 =
      subst (λ (x : A). length (filter keep (take ((position - lo) + 1) (drop lo rows))) ≡ length (filter keep (take (position - lo) (drop lo rows))) + cond (keep x) 1 0) item step in
      subst (λ (n : ℕ). length (filter keep (take n (drop lo rows))) ≡ length (filter keep (take (position - lo) (drop lo rows))) + cond (keep (get_or rows position d)) 1 0) one step'

  -- the row at the position stands behind those that were kept before it
  found_here : keep (get_or rows position d) ≡ true →
      slice_get (filter keep (between lo hi rows)) (length (filter keep (between lo position rows))) ≡ Some (get_or rows position d)
  found_here e =
      let here : lo + (position - lo) ≡ position = omega arith in
      let x : A = get_or rows position d in
      let base : List A = drop lo rows in
      let item : get_or base (position - lo) d ≡ x = get_or-drop lo rows (position - lo) d ∙ ap (λ (n : ℕ). get_or rows n d) here in
      let rest : List A = drop ((position - lo) + 1) (take (hi - lo) base) in
      let split : take (hi - lo) base ≡ take ((position - lo) + 1) base ++ rest =
      sym (take-append-drop ((position - lo) + 1) (take (hi - lo) base)) ∙ ap (λ (front : List A). front ++ rest) (take-take ((position - lo) + 1) (hi - lo) base (omega arith)) in
      let all : filter keep (take (hi - lo) base) ≡ filter keep (take ((position - lo) + 1) base) ++ filter keep rest = ap (filter keep) split ∙ filter-append keep (take ((position - lo) + 1) base) rest in
      let step : filter keep (take ((position - lo) + 1) base) ≡ filter keep (take (position - lo) base) ++ cond (keep (get_or base (position - lo) d)) (get_or base (position - lo) d ∷ []) [] =
      filter_more keep base (position - lo) d (omega (arith, length-drop lo rows)) in
      let step' : filter keep (take ((position - lo) + 1) base) ≡ filter keep (take (position - lo) base) ++ cond (keep x) (x ∷ []) [] =
      subst (λ (y : A). filter keep (take ((position - lo) + 1) base) ≡ filter keep (take (position - lo) base) ++ cond (keep y) (y ∷ []) []) item step in
      let step'' : filter keep (take ((position - lo) + 1) base) ≡ filter keep (take (position - lo) base) ++ x ∷ [] =
      subst (λ (b : Bool). filter keep (take ((position - lo) + 1) base) ≡ filter keep (take (position - lo) base) ++ cond b (x ∷ []) []) e step' in
      let whole : filter keep (take (hi - lo) base) ≡ filter keep (take (position - lo) base) ++ x ∷ filter keep rest =
      all ∙ ap (λ (front : List A). front ++ filter keep rest) step'' ∙ append_assoc (filter keep (take (position - lo) base)) (x ∷ []) (filter keep rest) in
      subst (λ (kept : List A). slice_get kept (length (filter keep (take (position - lo) base))) ≡ Some x) (sym whole) (get_at (filter keep (take (position - lo) base)) x (filter keep rest))

few_kept : {A : Type 0} (keep : A → Bool) (rows : List A) (lo position : ℕ) → length (filter keep (between lo position rows)) ≤ position - lo
few_kept keep rows lo position =
    omega (arith, length-filter keep (between lo position rows), count_by-le-length keep (between lo position rows), length-take (position - lo) (drop lo rows))

-- the row at a place
at_place : {A : Type 0} (groups : List (List A)) (position group place : ℕ) (d : A) → IsPlace groups position group place →
    get_or (joined groups) position d ≡ get_or (group_at groups group) place d
at_place groups position group place d p =
    same_Some _ _ (sym (slice_get-get_or (joined groups) position d (place_below groups position group place p))
    ∙ row_at_place groups position group place p ∙ slice_get-get_or (group_at groups group) place d p.within)

pub few_passed : (lease : Leased) (position : ℕ) (place : Place) (passed : ℕ) → Walks lease position place passed → passed ≤ position
few_passed lease position place passed walks =
    let counted : passed ≡ length (filter (keeps lease.pred) (between lease.lo position (joined lease.groups))) = walks.counted in
    omega (arith, few_kept (keeps lease.pred) (joined lease.groups) lease.lo position)

-- a row that matches, or not, is passed
pub walks_on : (lease : Leased) (position : ℕ) (place next : Place) (passed : ℕ) (matches : Bool) (x : List Cell) → Walks lease position place passed → position < lease.hi →
    x ≡ get_or (group_at lease.groups place.group) place.place x → matches ≡ keeps lease.pred x →
    (position + 1 < length (joined lease.groups) → IsPlace lease.groups (position + 1) next.group next.place) →
    Walks lease (position + 1) next (passed + cond matches 1 0)
walks_on lease position place next passed matches x walks more is m behind =
    let low : lease.lo ≤ position = walks.low in
    let within : lease.hi ≤ length (joined lease.groups) = walks.within in
    let row : x ≡ get_or (joined lease.groups) position x = is ∙ sym (at_place lease.groups position place.group place.place x (walks.here more)) in
    let kept : matches ≡ keeps lease.pred (get_or (joined lease.groups) position x) = m ∙ ap (keeps lease.pred) row in
    record {
      within = walks.within;
      low = omega arith;
      high = omega arith;
      here = λ h. behind (omega arith);
      counted = ap (λ (n : ℕ). n + cond matches 1 0) walks.counted
          ∙ ap (λ (b : Bool). length (filter (keeps lease.pred) (between lease.lo position (joined lease.groups))) + cond b 1 0) kept
          ∙ sym (count_more (keeps lease.pred) (joined lease.groups) lease.lo lease.hi position low more within x);
    }

pub match_here : (lease : Leased) (position : ℕ) (place : Place) (passed : ℕ) (x : List Cell) → Walks lease position place passed → position < lease.hi →
    x ≡ get_or (group_at lease.groups place.group) place.place x → keeps lease.pred x ≡ true → IsMatch lease place passed
match_here lease position place passed x walks more is e =
    let row : x ≡ get_or (joined lease.groups) position x = is ∙ sym (at_place lease.groups position place.group place.place x (walks.here more)) in
    let kept : keeps lease.pred (get_or (joined lease.groups) position x) ≡ true = ap (keeps lease.pred) (sym row) ∙ e in
    let found : slice_get (matching lease) (length (filter (keeps lease.pred) (between lease.lo position (joined lease.groups)))) ≡ Some (get_or (joined lease.groups) position x) =
    found_here (keeps lease.pred) (joined lease.groups) lease.lo lease.hi position walks.low more walks.within x kept in
    let here : slice_get (matching lease) passed ≡ Some (get_or (joined lease.groups) position x) =
    subst (λ (n : ℕ). slice_get (matching lease) n ≡ Some (get_or (joined lease.groups) position x)) (sym walks.counted) found in
    let place_is = walks.here more in
    record {
      row = sym (row_at_place lease.groups position place.group place.place place_is)
          ∙ slice_get-get_or (joined lease.groups) position x (place_below lease.groups position place.group place.place place_is) ∙ sym here;
      there = place_is.within;
      within = slice_get_within (matching lease) passed _ here;
    }

-- a walk at the end has passed all matching rows
pub all_passed : (lease : Leased) (position : ℕ) (place : Place) (passed : ℕ) → Walks lease position place passed → lease.hi ≤ position → passed ≡ length (matching lease)
all_passed lease position place passed walks end =
    let high : position ≤ lease.hi = walks.high in
    let same : position ≡ lease.hi = omega arith in
    walks.counted ∙ ap (λ (n : ℕ). length (filter (keeps lease.pred) (between lease.lo n (joined lease.groups)))) same

-- behind the last row of a group stands the first row of the next one
next_group : {A : Type 0} (groups : List (List A)) (group place : ℕ) → AllByRecursion HasRows groups → suc place ≡ length (group_at groups group) →
    length (joined (take group groups)) + suc place < length (joined groups) →
    (0 < length (group_at groups (suc group))) × (length (joined (take (suc group) groups)) ≡ length (joined (take group groups)) + suc place)
next_group [] group place each e h = absurd (omega arith)
next_group (first ∷ []) zero place each e h = absurd (omega (arith, length-append first []))
next_group (first ∷ (second ∷ more)) zero place each e h = (each.1.0, omega (arith, length-append first []))
next_group (first ∷ more) (suc group) place each e h =
    let rest : (0 < length (group_at more (suc group))) × (length (joined (take (suc group) more)) ≡ length (joined (take group more)) + suc place) =
    next_group more group place each.1 e (omega (arith, length-append first (joined (take group more)), length-append first (joined more))) in
    (rest.0, omega (arith, rest.1, length-append first (joined (take group more)), length-append first (joined (take (suc group) more))))

pub place_next : {A : Type 0} (groups : List (List A)) (position group place : ℕ) → AllByRecursion HasRows groups → IsPlace groups position group place →
    place + 1 ≡ length (group_at groups group) → position + 1 < length (joined groups) → IsPlace groups (position + 1) (group + 1) 0
place_next groups position group place each p e h =
    let counted : length (joined (take group groups)) + place ≡ position = p.counted in
    let next : (0 < length (group_at groups (suc group))) × (length (joined (take (suc group) groups)) ≡ length (joined (take group groups)) + suc place) =
    next_group groups group place each (omega arith) (omega arith) in
    let one : suc group ≡ group + 1 = omega arith in
    subst (λ (g : ℕ). IsPlace groups (position + 1) g 0) one (record { within = next.0; counted = omega (arith, next.1) })

-- within a group the next row stands at the next place
pub place_on : {A : Type 0} (groups : List (List A)) (position group place : ℕ) → IsPlace groups position group place → place + 1 < length (group_at groups group) →
    IsPlace groups (position + 1) group (place + 1)
place_on groups position group place p h =
    let counted : length (joined (take group groups)) + place ≡ position = p.counted in
    record { within = h; counted = omega arith }

group_short : {A : Type 0} (groups : List (List A)) (group : ℕ) → length (group_at groups group) ≤ length (joined groups)
group_short [] group = omega arith
group_short (first ∷ more) zero = omega (arith, length-append first (joined more))
group_short (first ∷ more) (suc group) = let rest : length (group_at more group) ≤ length (joined more) = group_short more group in omega (arith, length-append first (joined more))

pub place_short : {A : Type 0} (groups : List (List A)) (position group place : ℕ) → IsPlace groups position group place → place < length (joined groups)
place_short groups position group place p = let within : place < length (group_at groups group) = p.within in omega (arith, group_short groups group)

group_few : {A : Type 0} (groups : List (List A)) (group place : ℕ) → AllByRecursion HasRows groups → place < length (group_at groups group) → group < length (joined groups)
group_few [] group place each h = absurd (omega arith)
group_few (first ∷ more) zero place each h = let some : 0 < length first = each.0 in omega (arith, length-append first (joined more))
group_few (first ∷ more) (suc group) place each h =
    let rest : group < length (joined more) = group_few more group place each.1 h in
    let some : 0 < length first = each.0 in
    omega (arith, length-append first (joined more))

pub place_few : {A : Type 0} (groups : List (List A)) (position group place : ℕ) → AllByRecursion HasRows groups → IsPlace groups position group place → group < length (joined groups)
place_few groups position group place each p = group_few groups group place each p.within
