-- How distinctness grows with a list.
use Rattle.std.proofs.Common.{◌≡◌, ℕ, ◌+◌, ◌<◌, zero, suc, Bool, true, false, List, [], ◌∷◌, ◌++◌, length, take, drop, get_or, cond, refl, ap, sym, ◌∙◌, subst, arith}
use Rattle.std.specs.Prelude.{not, ◌&&◌, ◌||◌}
use Rattle.std.specs.List.{list_any}
use Rattle.std.specs.Str.{str_to_ascii_lowercase, bytes_eq}
use Rattle.std.specs.Bool.{nat_eq}
use Rattle.std.specs.Cmp.{IsEquivalence}
use Rattle.std.proofs.lemmas.Cmp.{nat_eq_equiv, nat_list_eq_equiv}
use Rattle.std.proofs.lemmas.List.{take_more, take-append-drop}
use Rattle.std.proofs.lemmas.List.Folds.{list_any-append}
use Rattle.std.proofs.Math.Seq.{drop-cons}
use Rattle.row_descriptor.specs.Distinct.{are_distinct}
use Rattle.row_descriptor.specs.declared.field.DescriptorField.{DescriptorField}
use Rattle.row_descriptor.specs.Descriptor.{is_same_number, is_same_field_name}

abbrev pub IsSymmetric : {A : Type 0} → (A → A → Bool) → Type 0
IsSymmetric {A} same = (x y : A) → same x y ≡ same y x

pub is_same_number-symmetric : IsSymmetric is_same_number
is_same_number-symmetric f g = nat_eq_equiv.symm f.number g.number

pub is_same_field_name-symmetric : IsSymmetric is_same_field_name
is_same_field_name-symmetric f g = nat_list_eq_equiv.symm (str_to_ascii_lowercase f.name) (str_to_ascii_lowercase g.name)

pub both-left : (a b : Bool) → a && b ≡ true → a ≡ true
both-left true b e = refl
both-left false b e = cc

pub both-right : (a b : Bool) → a && b ≡ true → b ≡ true
both-right true b e = e
both-right false b e = cc

pub none-left : (a b : Bool) → a || b ≡ false → a ≡ false
none-left true b e = cc
none-left false b e = refl

pub none-right : (a b : Bool) → a || b ≡ false → b ≡ false
none-right true b e = cc
none-right false b e = e

neither : (a b : Bool) → a ≡ false → b ≡ false → (a || (b || false)) ≡ false
neither a b e f = rw (e, f) refl

both : (a b : Bool) → a ≡ true → b ≡ true → a && b ≡ true
both a b e f = rw (e, f) refl

pub not-true : (a : Bool) → not a ≡ true → a ≡ false
not-true true e = cc
not-true false e = refl

-- one more at the end, which is no other
pub are_distinct-push : {A : Type 0} (same : A → A → Bool) → IsSymmetric same → (xs : List A) (y : A) → are_distinct same xs ≡ true → list_any (same y) xs ≡ false → are_distinct same (xs ++ y ∷ []) ≡ true
are_distinct-push same symm [] y d n = refl
are_distinct-push same symm (x ∷ xs) y d n =
    let new : same x y ≡ false = symm x y ∙ none-left _ _ n in
    let others : list_any (same x) (xs ++ y ∷ []) ≡ false = list_any-append (same x) xs (y ∷ []) ∙ neither _ _ (not-true _ (both-left _ _ d)) new in
    both _ _ (ap not others) (are_distinct-push same symm xs y (both-right _ _ d) (none-right _ _ n))

or_last : (c d : Bool) → (not (c || true) && d) ≡ false
or_last true d = refl
or_last false d = refl

and_false : (c d : Bool) → d ≡ false → (c && d) ≡ false
and_false true d e = e
and_false false d e = refl

-- the element at the front is the repeated one, or one behind it is
repeats : (a b c d g e : Bool) → (a || b) ≡ true → (b ≡ true → e ≡ false) → c ≡ (d || (a || g)) → (not c && e) ≡ false
repeats true b c d g e h later is = rw is (or_last d e)
repeats false true c d g e h later is = and_false (not c) e (later refl)
repeats false false c d g e h later is = cc

-- one that stands further on too
pub are_distinct-repeat : {A : Type 0} (same : A → A → Bool) → IsSymmetric same → (xs : List A) (y : A) (ys : List A) → list_any (same y) xs ≡ true → are_distinct same (xs ++ y ∷ ys) ≡ false
are_distinct-repeat same symm [] y ys n = cc
are_distinct-repeat same symm (x ∷ xs) y ys n =
    repeats (same y x) (list_any (same y) xs) (list_any (same x) (xs ++ y ∷ ys)) (list_any (same x) xs) (list_any (same x) ys) _ n
    (are_distinct-repeat same symm xs y ys)
    (list_any-append (same x) xs (y ∷ ys) ∙ ap (λ t. list_any (same x) xs || (t || list_any (same x) ys)) (symm x y))

-- one more at the end of the front of a list, which is no other
pub are_distinct-more : {A : Type 0} (same : A → A → Bool) → IsSymmetric same → (xs : List A) (i : ℕ) (x : A) → i < length xs → x ≡ get_or xs i x → are_distinct same (take i xs) ≡ true → list_any (same x) (take i xs) ≡ false → are_distinct same (take (i + 1) xs) ≡ true
are_distinct-more same symm xs i x h is d n = rw (take_more xs i x h, ← is) (are_distinct-push same symm (take i xs) x d n)

-- one that stands before it
pub are_distinct-again : {A : Type 0} (same : A → A → Bool) → IsSymmetric same → (xs : List A) (i : ℕ) (x : A) → i < length xs → x ≡ get_or xs i x → list_any (same x) (take i xs) ≡ true → are_distinct same xs ≡ false
are_distinct-again same symm xs i x h is n =
    let here : drop i xs ≡ x ∷ drop (suc i) xs = drop-cons xs i x h ∙ ap (λ y. y ∷ drop (suc i) xs) (sym is) in
    let whole : take i xs ++ x ∷ drop (suc i) xs ≡ xs = ap (λ t. take i xs ++ t) (sym here) ∙ take-append-drop i xs in
    subst (λ ys. are_distinct same ys ≡ false) whole (are_distinct-repeat same symm (take i xs) x (drop (suc i) xs) n)

-- whether one more passes
pub list_any-more : {A : Type 0} (p : A → Bool) (xs : List A) (i : ℕ) (x : A) → i < length xs → x ≡ get_or xs i x → list_any p (take (i + 1) xs) ≡ (list_any p (take i xs) || (p x || false))
list_any-more p xs i x h is = rw (take_more xs i x h, ← is) (list_any-append p (take i xs) (x ∷ []))

-- what an insert into a set says of its old keys
pub was_there : (added there : Bool) → added ≡ not there → added ≡ false → there ≡ true
was_there added true e h = refl
was_there added false e h = cc

pub was_new : (added there : Bool) → added ≡ not there → added ≡ true → there ≡ false
was_new added true e h = cc
was_new added false e h = refl

-- one more key, at the end of the list
pub or_cond : (a b c d : Bool) → a ≡ c → b ≡ d → cond a true b ≡ (d || (c || false))
or_cond true b c d e f = rw (← e) (or_true d)
  where
    or_true : (d : Bool) → true ≡ (d || true)
    or_true true = refl
    or_true false = refl
or_cond false b c d e f = rw (← e, f) (or_false d)
  where
    or_false : (d : Bool) → d ≡ (d || false)
    or_false true = refl
    or_false false = refl
