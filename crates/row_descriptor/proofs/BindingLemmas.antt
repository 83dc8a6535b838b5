-- A binding by its three refusals, and what holds of each binding.
use Rattle.std.proofs.Common.{◌≡◌, ℕ, ◌+◌, ◌<◌, ◌≤◌, zero, suc, Bool, true, false, List, [], ◌∷◌, length, map, take, Option, Some, None, Ok, Err, refl, ap, sym, ◌∙◌, cond, arith}
use Rattle.std.specs.Prelude.{not, ◌&&◌, ◌||◌, ◌==◌, find, IsTrue, slice_get, position}
use Rattle.std.specs.Option.{option_map}
use Rattle.std.specs.List.{list_any, prefix_len}
use Rattle.std.proofs.lemmas.Bool.{ltb-false}
use Rattle.std.specs.Str.{str_to_ascii_lowercase}
use Rattle.std.proofs.lemmas.Cmp.{nat_eq_equiv, nat_list_eq_equiv}
use Rattle.std.proofs.lemmas.List.{length-map}
use Rattle.column_types.specs.declared.column.Column.{Column}
use Rattle.column_types.specs.Name.{is_same_name}
use Rattle.column_types.specs.Schema.{IsSchema, HasNoRepeat, repeated_at}
use Rattle.row_descriptor.specs.declared.field.DescriptorField.{DescriptorField}
use Rattle.row_descriptor.specs.declared.bound.BoundColumn.{BoundColumn}
use Rattle.row_descriptor.specs.declared.faults.BindFault.TheVariants as fault
use Rattle.row_descriptor.specs.Distinct.{are_distinct}
use Rattle.row_descriptor.specs.Descriptor.{are_descriptor, is_same_number}
use Rattle.row_descriptor.specs.Binding.{binding_of, bound_column, field_for, is_field_of, is_extra, is_misfit, is_missing, source_of, share_number, have_one_field, IsBinding, IsBoundTo, kind_and_mode, column_kind_and_mode}
use Rattle.row_descriptor.proofs.DistinctLemmas.{both-left, both-right, not-true, is_same_number-symmetric}

pub binding_of-extra : (fields : List DescriptorField) (columns : List Column) (f : DescriptorField) → find (is_extra columns) fields ≡ Some f → binding_of fields columns ≡ Err (fault.ExtraField f.name)
unfolding binding_of
binding_of-extra fields columns f e = rw e refl

pub binding_of-misfit : (fields : List DescriptorField) (columns : List Column) (f : DescriptorField) → find (is_extra columns) fields ≡ None → find (is_misfit columns) fields ≡ Some f → binding_of fields columns ≡ Err (fault.TypeMismatch f.name)
unfolding binding_of
binding_of-misfit fields columns f e g = rw (e, g) refl

pub binding_of-missing : (fields : List DescriptorField) (columns : List Column) (column : Column) → find (is_extra columns) fields ≡ None → find (is_misfit columns) fields ≡ None → find (is_missing fields) columns ≡ Some column → binding_of fields columns ≡ Err (fault.MissingRequired column.name)
unfolding binding_of
binding_of-missing fields columns column e g h = rw (e, g, h) refl

pub binding_of-bound : (fields : List DescriptorField) (columns : List Column) → find (is_extra columns) fields ≡ None → find (is_misfit columns) fields ≡ None → find (is_missing fields) columns ≡ None → binding_of fields columns ≡ Ok (map (bound_column fields) columns)
unfolding binding_of
binding_of-bound fields columns e g h = rw (e, g, h) refl

pub IsBoundTo-bound : (fields : List DescriptorField) (columns : List Column) → IsBoundTo columns (map (bound_column fields) columns)
IsBoundTo-bound fields [] = refl
IsBoundTo-bound fields (c ∷ cs) = ap (λ rest. column_kind_and_mode c ∷ rest) (IsBoundTo-bound fields cs)

-- what a search finds passes its test
passes : {A : Type 0} (p : A → Bool) (x y : A) (rest : Option A) (t : Bool) → p x ≡ t → cond t (Some x) rest ≡ Some y → (rest ≡ Some y → p y ≡ true) → p y ≡ true
passes p x y rest true e h later = let same : x ≡ y = cc in rw (← same) e
passes p x y rest false e h later = later h

find-passes : {A : Type 0} (p : A → Bool) (xs : List A) (y : A) → find p xs ≡ Some y → p y ≡ true
find-passes p [] y e = cc
find-passes p (x ∷ xs) y e = passes p x y (find p xs) (p x) refl e (find-passes p xs y)

-- and is in the list
any_later : (a b : Bool) → b ≡ true → a || b ≡ true
any_later true b e = refl
any_later false b e = e

found_any : {A : Type 0} (r : A → Bool) (x y : A) (rest : Option A) (t more : Bool) → cond t (Some x) rest ≡ Some y → r y ≡ true → (rest ≡ Some y → more ≡ true) → r x || more ≡ true
found_any r x y rest true more h passed later = let same : x ≡ y = cc in rw (same, passed) refl
found_any r x y rest false more h passed later = any_later (r x) more (later h)

find-any : {A : Type 0} (p r : A → Bool) (xs : List A) (y : A) → find p xs ≡ Some y → r y ≡ true → list_any r xs ≡ true
find-any p r [] y e passed = cc
find-any p r (x ∷ xs) y e passed = found_any r x y (find p xs) (p x) (list_any r xs) e passed (λ later. find-any p r xs y later passed)

-- two searches of a list without repeats find one element, where what they find is the same
one_of_both : {A : Type 0} (same : A → A → Bool) (x y z : A) (ys zs : Option A) (s t : Bool) →
    ((a b : A) → same a b ≡ same b a) → cond s (Some x) ys ≡ Some y → cond t (Some x) zs ≡ Some z → same y z ≡ true →
    (zs ≡ Some z → same x z ≡ true → ⊥) → (ys ≡ Some y → same x y ≡ true → ⊥) → (ys ≡ Some y → zs ≡ Some z → y ≡ z) → y ≡ z
one_of_both same x y z ys zs true true symm e f h no_z no_y later = cc
one_of_both same x y z ys zs true false symm e f h no_z no_y later =
    let first : y ≡ x = cc in absurd (no_z f (rw first at h))
one_of_both same x y z ys zs false true symm e f h no_z no_y later =
    let first : z ≡ x = cc in absurd (no_y e (symm x y ∙ rw first at h))
one_of_both same x y z ys zs false false symm e f h no_z no_y later = later e f

apart_first : {A : Type 0} (p r : A → Bool) (xs : List A) (y : A) → list_any r xs ≡ false → find p xs ≡ Some y → r y ≡ true → ⊥
apart_first p r xs y none found passed = let some : list_any r xs ≡ true = find-any p r xs y found passed in cc

find_one : {A : Type 0} (same : A → A → Bool) → ((a b : A) → same a b ≡ same b a) → (p q : A → Bool) (xs : List A) (y z : A) → are_distinct same xs ≡ true → find p xs ≡ Some y → find q xs ≡ Some z → same y z ≡ true → y ≡ z
find_one same symm p q [] y z d e f h = cc
find_one same symm p q (x ∷ xs) y z d e f h =
    let apart : list_any (same x) xs ≡ false = not-true _ (both-left _ _ d) in
    one_of_both same x y z (find p xs) (find q xs) (p x) (q x) symm e f h
    (apart_first q (same x) xs z apart) (apart_first p (same x) xs y apart)
    (λ g k. find_one same symm p q xs y z (both-right _ _ d) g k h)

is_same_name-joined : (a b f : List ℕ) → is_same_name a f ≡ true → is_same_name b f ≡ true → is_same_name a b ≡ true
is_same_name-joined a b f e g =
    let joined = nat_list_eq_equiv.congr (str_to_ascii_lowercase a) (str_to_ascii_lowercase f) (str_to_ascii_lowercase b) e in
    joined ∙ nat_list_eq_equiv.symm (str_to_ascii_lowercase f) (str_to_ascii_lowercase b) ∙ g

-- columns that are read from one field have one name
one_name : (fields : List DescriptorField) (a b : Column) (f g : Option DescriptorField) → are_distinct is_same_number fields ≡ true →
    field_for fields a ≡ f → field_for fields b ≡ g → share_number (option_map source_of f) (option_map source_of g) ≡ true → is_same_name a.name b.name ≡ true
one_name fields a b (Some f) (Some g) d e k h =
    let same : f ≡ g = find_one is_same_number is_same_number-symmetric (is_field_of a) (is_field_of b) fields f g d e k h in
    let named : is_same_name a.name f.name ≡ true = find-passes (is_field_of a) fields f e in
    let other : is_same_name b.name g.name ≡ true = find-passes (is_field_of b) fields g k in
    is_same_name-joined a.name b.name f.name named (rw same other)
one_name fields a b (Some f) None d e k h = cc
one_name fields a b None g d e k h = cc

abbrev is_same_column : Column → Column → Bool
is_same_column a b = is_same_name a.name b.name

false_by : (t : Bool) → (t ≡ true → ⊥) → t ≡ false
false_by true h = absurd (h refl)
false_by false h = refl

none_shares : (fields : List DescriptorField) (a : Column) (columns : List Column) → are_distinct is_same_number fields ≡ true → list_any (is_same_column a) columns ≡ false → list_any (have_one_field (bound_column fields a)) (map (bound_column fields) columns) ≡ false
none_shares fields a [] d n = refl
none_shares fields a (b ∷ columns) d n =
    let apart : have_one_field (bound_column fields a) (bound_column fields b) ≡ false = false_by _ (λ h. apart_head _ _ n (one_name fields a b _ _ d refl refl h)) in
    rw apart (none_shares fields a columns d (apart_tail _ _ n))
  where
    apart_head : (s t : Bool) → s || t ≡ false → s ≡ true → ⊥
    apart_head true t e h = cc
    apart_head false t e h = cc

    apart_tail : (s t : Bool) → s || t ≡ false → t ≡ false
    apart_tail true t e = cc
    apart_tail false t e = e

binding_apart : (fields : List DescriptorField) (columns : List Column) → are_distinct is_same_number fields ≡ true → are_distinct is_same_column columns ≡ true → are_distinct have_one_field (map (bound_column fields) columns) ≡ true
binding_apart fields [] d n = refl
binding_apart fields (c ∷ columns) d n = rw (none_shares fields c columns d (not-true _ (both-left _ _ n))) (binding_apart fields columns d (both-right _ _ n))

-- by places: no element passes
none_passes : {A : Type 0} (p : A → Bool) (xs : List A) → ((at : ℕ) (y : A) → slice_get xs at ≡ Some y → p y ≡ false) → list_any p xs ≡ false
none_passes p [] h = refl
none_passes p (x ∷ xs) h = rw (h 0 x refl) (none_passes p xs (λ at y e. h (suc at) y e))

slice_get-below : {A : Type 0} (xs : List A) (at : ℕ) (y : A) → slice_get xs at ≡ Some y → at < length xs
slice_get-below [] at y e = cc
slice_get-below (x ∷ xs) zero y e = omega arith
slice_get-below (x ∷ xs) (suc at) y e = let below : at < length xs = slice_get-below xs at y e in omega arith

none_left : (t : Bool) (i : ℕ) → cond t (Some i) None ≡ None → t ≡ false
none_left true i e = cc
none_left false i e = refl

fails_first : {A : Type 0} (p : A → Bool) (x : A) (xs : List A) (b : Bool) → p x ≡ b →
    suc (length xs) ≤ cond (not b) (1 + prefix_len (λ y. not (p y)) xs) 0 → (b ≡ false) × (length xs ≤ prefix_len (λ y. not (p y)) xs)
fails_first p x xs true e h = absurd (omega arith)
fails_first p x xs false e h = (refl, omega arith)

list_any-prefix : {A : Type 0} (p : A → Bool) (xs : List A) → length xs ≤ prefix_len (λ x. not (p x)) xs → list_any p xs ≡ false
list_any-prefix p [] h = refl
list_any-prefix p (x ∷ xs) h =
    let first : (p x ≡ false) × (length xs ≤ prefix_len (λ y. not (p y)) xs) = fails_first p x xs (p x) refl h in
    rw first.0 (list_any-prefix p xs first.1)

-- `position` finds no element
list_any-position : {A : Type 0} (p : A → Bool) (xs : List A) → position p xs ≡ None → list_any p xs ≡ false
list_any-position p xs e = list_any-prefix p xs (ltb-false _ _ (none_left _ _ e))

-- each column has another name than those before it
abbrev DiffersFromEarlier : List Column → Type 0
DiffersFromEarlier columns = (at : ℕ) (y : Column) → slice_get columns at ≡ Some y → list_any (λ c. is_same_column c y) (take at columns) ≡ false

or-head : (s t : Bool) → s || t ≡ false → s ≡ false
or-head true t e = cc
or-head false t e = refl

or-tail : (s t : Bool) → s || t ≡ false → t ≡ false
or-tail true t e = cc
or-tail false t e = e

columns_apart : (columns : List Column) → DiffersFromEarlier columns → are_distinct is_same_column columns ≡ true
columns_apart [] h = refl
columns_apart (c ∷ columns) h =
    let first : list_any (is_same_column c) columns ≡ false = none_passes (is_same_column c) columns (λ at y e. or-head _ _ (h (suc at) y e)) in
    rw first (columns_apart columns (λ at y e. or-tail _ _ (h (suc at) y e)))

differs_from_earlier : (columns : List Column) → IsSchema columns → DiffersFromEarlier columns
differs_from_earlier columns h at y e =
    list_any-position (λ c. is_same_column c y) (take at columns) (rw e at (h.distinct at (slice_get-below columns at y e)))

-- what holds of each binding
pub IsBinding-bound : (fields : List DescriptorField) (columns : List Column) → IsTrue (are_descriptor fields) → IsSchema columns → IsBinding (map (bound_column fields) columns)
IsBinding-bound fields columns good schema = record {
  most = rw (length-map columns (bound_column fields)) schema.most;
  apart = binding_apart fields columns (both-right _ _ (both-left _ _ good)) (columns_apart columns (differs_from_earlier columns schema));
}
