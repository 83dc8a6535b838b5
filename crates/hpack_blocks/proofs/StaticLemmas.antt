-- The static table of the code is that of the standard.
use Rattle.std.proofs.Common.{◌≡◌, ℕ, ◌<◌, List, ◌+◌, ◌≤◌, Bool, true, false, ◌∷◌, length, map, drop, get_or, Option, Some, None, refl, sym, ap, ◌∙◌, add-one, drop-cons, arith}
use Rattle.std.specs.Prelude.{slice_get}
use Rattle.std.specs.List.{position_from}
use Rattle.std.proofs.Math.ListN.{drop_of_length-le}
use Rattle.std.proofs.lemmas.Option.{slice_get-get_or, slice_get_within, get_or_from_slice_get}
use Rattle.std.proofs.lemmas.List.{get_or-map, length-map}
use denote.Bor.{Bor}
use Rattle.hpack_blocks.specs.Static.{static_table}
use Rattle.hpack_blocks.specs.declared.fields.Field.{Field}

abbrev pub field_of : (Bor (List ℕ) × Bor (List ℕ)) → Field
field_of e = record { name = e.0.now; value = e.1.now }

pub static_len : length static_table ≡ 61
unfolding static_table
static_len = refl

at_map : (xs : List (Bor (List ℕ) × Bor (List ℕ))) (i : ℕ) (d : Bor (List ℕ) × Bor (List ℕ)) (ys : List Field) → map field_of xs ≡ ys → i < length ys → slice_get ys i ≡ Some (field_of (get_or xs i d))
at_map xs i d ys same h =
    let within : i < length xs = omega (arith, ap length same, length-map xs field_of) in
    slice_get-get_or ys i (field_of d) h ∙ ap (λ zs. Some (get_or zs i (field_of d))) (sym same) ∙ ap (λ y. Some y) (get_or-map field_of xs i d (field_of d) within)

pub table_len : (xs : List (Bor (List ℕ) × Bor (List ℕ))) → map field_of xs ≡ static_table → length xs ≡ 61
table_len xs same = omega (arith, ap length same, length-map xs field_of, static_len)

pub static_at : (xs : List (Bor (List ℕ) × Bor (List ℕ))) (i : ℕ) (d : Bor (List ℕ) × Bor (List ℕ)) → map field_of xs ≡ static_table → i < 61 → slice_get static_table i ≡ Some (field_of (get_or xs i d))
static_at xs i d same h = at_map xs i d static_table same (omega (arith, static_len))

-- ---- a search from front to back

drop_next : (xs : List Field) (i : ℕ) (x : Field) → slice_get xs i ≡ Some x → drop i xs ≡ x ∷ drop (i + 1) xs
drop_next xs i x e =
    let within = slice_get_within xs i x e in
    let here = get_or_from_slice_get xs i x x e in
    rw (drop-cons xs i x, here, add-one) refl

first_passes : (p : Field → Bool) (i : ℕ) (x : Field) (xs : List Field) → p x ≡ true → position_from p i (x ∷ xs) ≡ Some i
first_passes p i x xs passes = rw passes refl

first_fails : (p : Field → Bool) (i : ℕ) (x : Field) (xs : List Field) → p x ≡ false → position_from p i (x ∷ xs) ≡ position_from p (i + 1) xs
first_fails p i x xs fails = rw fails refl

found_here : (xs : List Field) (p : Field → Bool) (i : ℕ) (x : Field) → slice_get xs i ≡ Some x → p x ≡ true → position_from p i (drop i xs) ≡ Some i
found_here xs p i x e passes = ap (position_from p i) (drop_next xs i x e) ∙ first_passes p i x (drop (i + 1) xs) passes

found_later : (xs : List Field) (p : Field → Bool) (i : ℕ) (x : Field) → slice_get xs i ≡ Some x → p x ≡ false → position_from p i (drop i xs) ≡ position_from p (i + 1) (drop (i + 1) xs)
found_later xs p i x e fails = ap (position_from p i) (drop_next xs i x e) ∙ first_fails p i x (drop (i + 1) xs) fails

found_never : (xs : List Field) (p : Field → Bool) (i : ℕ) → length xs ≤ i → position_from p i (drop i xs) ≡ None
found_never xs p i past = ap (position_from p i) (drop_of_length-le xs {i = i} past)

unfoldable pub place_from : (Field → Bool) → ℕ → Option ℕ
place_from p i = position_from p i (drop i static_table)

pub place_start : (p : Field → Bool) → place_from p 0 ≡ position_from p 0 static_table
unfolding place_from
place_start p = refl

pub place_here : (p : Field → Bool) (i : ℕ) (x : Field) → slice_get static_table i ≡ Some x → p x ≡ true → place_from p i ≡ Some i
unfolding place_from
place_here p i x e passes = found_here static_table p i x e passes

pub place_later : (p : Field → Bool) (i : ℕ) (x : Field) → slice_get static_table i ≡ Some x → p x ≡ false → place_from p i ≡ place_from p (i + 1)
unfolding place_from
place_later p i x e fails = found_later static_table p i x e fails

pub place_none : (p : Field → Bool) (i : ℕ) → 61 ≤ i → place_from p i ≡ None
unfolding place_from
place_none p i past = found_never static_table p i (omega (arith, static_len))
