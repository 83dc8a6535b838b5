-- Fields whose block is short have names and values that are.
use Rattle.std.proofs.Common.{◌≡◌, ℕ, ◌+◌, ◌<◌, ◌≤◌, ◌^◌, nat_lt, Bool, true, false, ◌&&◌, List, [], ◌∷◌, ◌++◌, length, All, Option, None, Some, refl, sym, subst, ◌∙◌, arith, length-append}
use Rattle.std.specs.List.{flat_map, list_all, position_from}
use Rattle.std.specs.Str.{bytes_eq}
use Rattle.std.proofs.lemmas.List.Elements.{All-nil, All-cons}
use Rattle.std.proofs.lemmas.Slice.Eq.{bytes_eq-Decides}
use Rattle.hpack_codes.specs.Integers.{int_spelling}
use Rattle.hpack_blocks.specs.declared.fields.Field.{Field}
use Rattle.hpack_blocks.specs.Static.{static_table}
use Rattle.hpack_blocks.specs.Spelling.{Fits, block_spelling, place_of_field, place_of_name, string_spelling, literal_spelling, spelling_at, field_spelling}
use Rattle.h2_record.proofs.BoolLemmas.{and-first, and-second, lt-true, by-test}

-- ---- the entries of the static table are short

is_short : List ℕ → Bool
is_short bytes = nat_lt (length bytes) (2 ^ 32)

is_short_field : Field → Bool
is_short_field f = is_short f.name && is_short f.value

static-short : list_all is_short_field static_table ≡ true
unfolding static_table is_short is_short_field
static-short = refl

short-same : (xs ys : List ℕ) → bytes_eq xs ys ≡ true → is_short xs ≡ true → length ys < 2 ^ 32
unfolding is_short
short-same xs ys same short = let h : length ys < 2 ^ 32 = subst (λ (zs : List ℕ). length zs < 2 ^ 32) ((bytes_eq-Decides xs ys).0 same) (lt-true (length xs) (2 ^ 32) short) in h

found-later : (test : Field → Bool) (x : Field) (xs : List Field) (n : ℕ) → test x ≡ false → position_from test n (x ∷ xs) ≡ position_from test (n + 1) xs
found-later test x xs n fails = rw fails refl

-- and so is a field, or a name, that is found in it
found-fits : (f : Field) (xs : List Field) (n place : ℕ) → list_all is_short_field xs ≡ true
    → position_from (λ e. bytes_eq e.name f.name && bytes_eq e.value f.value) n xs ≡ Some place → Fits f
unfolding is_short_field
found-fits f [] n place short e = absurd (cc)
found-fits f (x ∷ xs) n place short e =
    let same_name = bytes_eq x.name f.name in
    let same_value = bytes_eq x.value f.value in
    let here = and-first (is_short_field x) (list_all is_short_field xs) short in
    by-test (same_name && same_value)
    (λ passes. record {
      name = short-same x.name f.name (and-first same_name same_value passes) (and-first (is_short x.name) (is_short x.value) here);
      value = short-same x.value f.value (and-second same_name same_value passes) (and-second (is_short x.name) (is_short x.value) here);
    })
    (λ fails. found-fits f xs (n + 1) place (and-second (is_short_field x) (list_all is_short_field xs) short)
    (sym (found-later (λ e. bytes_eq e.name f.name && bytes_eq e.value f.value) x xs n fails) ∙ e))

found-name : (name : List ℕ) (xs : List Field) (n place : ℕ) → list_all is_short_field xs ≡ true → position_from (λ e. bytes_eq e.name name) n xs ≡ Some place → length name < 2 ^ 32
unfolding is_short_field
found-name name [] n place short e = absurd (cc)
found-name name (x ∷ xs) n place short e =
    let here = and-first (is_short_field x) (list_all is_short_field xs) short in
    by-test (bytes_eq x.name name)
    (λ passes. short-same x.name name passes (and-first (is_short x.name) (is_short x.value) here))
    (λ fails. found-name name xs (n + 1) place (and-second (is_short_field x) (list_all is_short_field xs) short) (sym (found-later (λ e. bytes_eq e.name name) x xs n fails) ∙ e))

-- ---- a literal holds its strings

string-within : (bytes before after : List ℕ) → length (before ++ string_spelling bytes ++ after) < 2 ^ 32 → length bytes < 2 ^ 32
unfolding string_spelling
string-within bytes before after small =
    omega (arith, length-append (before ++ string_spelling bytes) after, length-append before (string_spelling bytes), length-append (int_spelling 0 7 (length bytes)) bytes)

last-within : (bytes before : List ℕ) → length (before ++ string_spelling bytes) < 2 ^ 32 → length bytes < 2 ^ 32
unfolding string_spelling
last-within bytes before small = omega (arith, length-append before (string_spelling bytes), length-append (int_spelling 0 7 (length bytes)) bytes)

literal-fits : (f : Field) (found : Option ℕ) → place_of_name f.name ≡ found → length (literal_spelling found f) < 2 ^ 32 → Fits f
unfolding literal_spelling place_of_name
literal-fits f (Some place) e small = record { name = found-name f.name static_table 0 place static-short e; value = last-within f.value (int_spelling 0 4 (place + 1)) small }
literal-fits f None e small = record {
  name = string-within f.name (int_spelling 0 4 0) (string_spelling f.value) small;
  value = last-within f.value (int_spelling 0 4 0 ++ string_spelling f.name) small;
}

at-fits : (f : Field) (found : Option ℕ) → place_of_field f ≡ found → length (spelling_at found f) < 2 ^ 32 → Fits f
unfolding spelling_at place_of_field
at-fits f (Some place) e small = found-fits f static_table 0 place static-short e
at-fits f None e small = literal-fits f (place_of_name f.name) refl small

field-fits : (f : Field) → length (field_spelling f) < 2 ^ 32 → Fits f
unfolding field_spelling
field-fits f small = at-fits f (place_of_field f) refl small

-- ---- all fields of a short block

all-fit : (fields : List Field) → length (flat_map field_spelling fields) < 2 ^ 32 → All Fits fields
all-fit [] small = All-nil Fits
all-fit (f ∷ fields) small =
    let both = length-append (field_spelling f) (flat_map field_spelling fields) in
    let first : length (field_spelling f) < 2 ^ 32 = omega (arith, both) in
    let rest : length (flat_map field_spelling fields) < 2 ^ 32 = omega (arith, both) in
    All-cons Fits f fields (field-fits f first) (all-fit fields rest)

pub block-fits : (fields : List Field) → length (block_spelling true fields) ≤ 16384 → All Fits fields
block-fits fields small = let rest : length (flat_map field_spelling fields) < 2 ^ 32 = omega (arith, small) in all-fit fields rest
