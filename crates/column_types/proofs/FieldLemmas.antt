-- The fields of all columns, and of the columns named, are made for the schema.
use Rattle.std.proofs.Common.{◌≡◌, ℕ, ◌+◌, ◌<◌, true, false, List, [], ◌∷◌, length, Option, Some, None, refl, arith}
use Rattle.std.specs.Prelude.{is_none}
use Rattle.std.specs.List.{range_with_len, All}
use Rattle.std.specs.List.Sorted.{IsStrictlyIncreasing}
use Rattle.std.proofs.lemmas.List.Elements.{All-filter, All-from_get_or}
use Rattle.std.proofs.lemmas.List.FromFn.{length-range_with_len, get_or-range_with_len}
use Rattle.std.proofs.lemmas.List.Kept.{IsStrictlyIncreasing-filter}
use Rattle.std.proofs.lemmas.List.Quantifiers.{position-Some}
use Rattle.std.proofs.lemmas.Option.{slice_get-get_or}
use Rattle.column_types.specs.declared.column.Column.{Column}
use Rattle.column_types.specs.Name.{is_same_name}
use Rattle.column_types.specs.Schema.{column_number}
use Rattle.column_types.specs.Fields.{IsMadeFor, all_fields, is_named, fields_named, unknown_name}
use Rattle.column_types.proofs.ListLemmas.{filter-some, position-head}

within_all : (n : ℕ) → All (λ number. number < n) (range_with_len 0 n)
within_all n = All-from_get_or (λ number. number < n) (range_with_len 0 n) 0
    (λ i h. let below : i < n = omega (arith, length-range_with_len 0 n) in omega (arith, get_or-range_with_len 0 n i 0 below))

rising_all : (n : ℕ) → IsStrictlyIncreasing (range_with_len 0 n)
rising_all n k h =
    let below : k + 1 < n = omega (arith, length-range_with_len 0 n) in
    let first : k < n = omega arith in
    omega (arith, get_or-range_with_len 0 n k 0 first, get_or-range_with_len 0 n (k + 1) 0 below)

pub IsMadeFor-all : (columns : List Column) → 0 < length columns → IsMadeFor columns (all_fields columns)
IsMadeFor-all columns h = record {
  some = omega (arith, length-range_with_len 0 (length columns));
  within = within_all (length columns);
  rising = rising_all (length columns);
}

column_of : (columns : List Column) (name : List ℕ) (o : Option ℕ) → is_none o ≡ false → (number : ℕ) × (o ≡ Some number)
column_of columns name None e = cc
column_of columns name (Some number) e = (number, refl)

-- the column that has the first name is named
first_is_named : (columns : List Column) (name : List ℕ) (more : List (List ℕ)) (number : ℕ) → column_number columns name ≡ Some number →
    (number < length columns) × (is_named columns (name ∷ more) number ≡ true)
first_is_named [] name more number e = cc
first_is_named (column ∷ columns) name more number e =
    let found = position-Some (λ other. is_same_name other.name name) (column ∷ columns) number column e in
    (found.0, rw (slice_get-get_or (column ∷ columns) number column found.0, found.1) refl)

known_first : (columns : List Column) (name : List ℕ) (more : List (List ℕ)) → unknown_name columns (name ∷ more) ≡ None → is_none (column_number columns name) ≡ false
known_first columns name more e = position-head (λ other. is_none (column_number columns other)) name more e

pub IsMadeFor-named : (columns : List Column) (names : List (List ℕ)) → 0 < length columns → unknown_name columns names ≡ None → IsMadeFor columns (fields_named columns names)
IsMadeFor-named columns [] h e = IsMadeFor-all columns h
IsMadeFor-named columns (name ∷ more) h e = record {
  some =
      let known = column_of columns name (column_number columns name) (known_first columns name more e) in
      let named = first_is_named columns name more known.0 known.1 in
      filter-some (is_named columns (name ∷ more)) 0 (length columns) known.0 named.0 (let same : 0 + known.0 ≡ known.0 = omega arith in rw same named.1);
  within = All-filter (is_named columns (name ∷ more)) (λ number. number < length columns) (all_fields columns) (within_all (length columns));
  rising = IsStrictlyIncreasing-filter (is_named columns (name ∷ more)) (all_fields columns) (rising_all (length columns));
}
