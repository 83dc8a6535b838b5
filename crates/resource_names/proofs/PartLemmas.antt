-- Words and parts, and the slashes between them.
use Rattle.std.proofs.Common.{◌≡◌, ℕ, suc, ◌≤◌, ◌+◌, Bool, true, false, List, [], ◌∷◌, length, length-append, IsTrue, Option, Some, None, Err, refl, ap, subst, ◌∙◌, arith}
use Rattle.std.specs.Prelude.{MatchOption, ◌==◌, not, if◌then◌else◌, nat_le}
use Rattle.std.specs.List.{All, AllByRecursion, list_all, join_with_byte}
use Rattle.std.specs.Str.{bytes_eq}
use Rattle.std.proofs.lemmas.Bool.{and_parts, and_from, leb-true, both_ways, ne_eqb, not-true}
use Rattle.std.proofs.lemmas.List.Elements.{All-weaker}
use Rattle.std.proofs.lemmas.List.Sums.{AllPass-from_list_all}
use Rattle.std.proofs.lemmas.List.Splits.{slice_split_none, slice_split_at}
use Rattle.std.proofs.lemmas.Slice.Eq.{bytes_eq-Decides}
use Rattle.resource_names.specs.declared.faults.NameFault.TheVariants as fault
use Rattle.resource_names.specs.declared.parts.TheConstants.{MAX_PART_BYTES}
use Rattle.resource_names.specs.Part.{is_part_byte, has_part_len, is_part, is_named, parts_of}
use Rattle.resource_names.specs.Reads.{Reads}

-- a choice that gives something was taken
pub if_some : {A : Type 0} → (b : Bool) (o : Option A) (y : A) → (if b then o else None) ≡ Some y → (b ≡ true) × (o ≡ Some y)
if_some true o y e = (refl, e)
if_some false o y e = absurd cc

pub if_true : {A : Type 0} → (b : Bool) (o : Option A) → b ≡ true → (if b then o else None) ≡ o
if_true true o e = refl
if_true false o e = absurd cc

pub some_same : {A : Type 0} → (x y : A) → Some x ≡ Some y → x ≡ y
some_same x y e = cc

pub none_if : {A : Type 0} → (o : Option A) → ((x : A) → o ≡ Some x → ⊥) → o ≡ None
none_if None h = refl
none_if (Some x) h = absurd (h x refl)

pub match_none : {A : Type 0} → (r : Option A) (P : Type 0) (Q : A → Type 0) → r ≡ None → MatchOption r P Q → P
match_none None P Q is h = h
match_none (Some x) P Q is h = absurd cc

pub match_some : {A : Type 0} → (r : Option A) (x : A) (P : Type 0) (Q : A → Type 0) → r ≡ Some x → MatchOption r P Q → Q x
match_some {A = A} r x P Q is h = let R : Option A → Type 0 = λ o. MatchOption o P Q in subst R is h

abbrev pub is_slash : ℕ → Bool
is_slash b = b == 47

abbrev pub NoSlash : List ℕ → Type 0
NoSlash text = All (λ b. is_slash b ≡ false) text

not_slash : (b : ℕ) → is_part_byte b ≡ true → is_slash b ≡ false
not_slash b part = ne_eqb b 47 (λ e. both_ways (is_part_byte 47) refl (subst (λ (c : ℕ). is_part_byte c ≡ true) e part))

pub part_has_none : (text : List ℕ) → IsTrue (is_part text) → NoSlash text
part_has_none text part =
    All-weaker (λ b. is_part_byte b ≡ true) (λ b. is_slash b ≡ false) not_slash text
    (AllPass-from_list_all is_part_byte text (and_parts (has_part_len text) (list_all is_part_byte text) part).1)

pub word_has_none : (text : List ℕ) → list_all (λ b. not (is_slash b)) text ≡ true → NoSlash text
word_has_none text word =
    All-weaker (λ b. not (is_slash b) ≡ true) (λ b. is_slash b ≡ false) (λ b e. not-true (is_slash b) e) text
    (AllPass-from_list_all (λ b. not (is_slash b)) text word)

-- what is joined by slashes is parted again
pub parts_joined : (first : List ℕ) (more : List (List ℕ)) → NoSlash first → AllByRecursion NoSlash more → parts_of (join_with_byte 47 (first ∷ more)) ≡ first ∷ more
parts_joined first [] none nones = slice_split_none is_slash first none
parts_joined first (second ∷ more) none nones =
    slice_split_at is_slash first 47 (join_with_byte 47 (second ∷ more)) none refl
    ∙ ap (λ (parts : List (List ℕ)). first ∷ parts) (parts_joined second more nones.0 nones.1)

pub part_most : (text : List ℕ) → IsTrue (is_part text) → length text ≤ 128
part_most text part =
    leb-true (length text) 128 (and_parts (nat_le 1 (length text)) (nat_le (length text) MAX_PART_BYTES) (and_parts (has_part_len text) (list_all is_part_byte text) part).0).1

pub joined_most : (first second : List ℕ) (more : List (List ℕ)) (n m : ℕ) → length first ≤ n → length (join_with_byte 47 (second ∷ more)) ≤ m
    → length (join_with_byte 47 (first ∷ second ∷ more)) ≤ n + suc m
joined_most first second more n m few others = omega (arith, few, others, length-append first (47 ∷ join_with_byte 47 (second ∷ more)))

pub named_parts : (word text part : List ℕ) → is_named word text part ≡ true → (text ≡ word) × IsTrue (is_part part)
named_parts word text part e =
    let both = and_parts (bytes_eq text word) (is_part part) e in
    ((bytes_eq-Decides text word).0 both.0, both.1)

pub named_from : (word part : List ℕ) → IsTrue (is_part part) → is_named word word part ≡ true
named_from word part is = and_from (bytes_eq word word) (is_part part) ((bytes_eq-Decides word word).1 refl) is

-- a text that is none gives BadName
pub reads_none : {X : Type 0} → (name : Option X) → name ≡ None → Reads name (Err fault.BadName)
reads_none name e = e
