-- An outline, one depth after another, and one field after another.
use Rattle.std.proofs.Common.{◌≡◌, ℕ, zero, suc, ◌+◌, ◌<◌, ◌≤◌, List, [], ◌∷◌, ◌++◌, refl, sym, ap, subst, ◌∙◌, inl, inr, append_assoc, arith}
use Rattle.std.proofs.lemmas.Bool.{cases_lt}
use Rattle.std.proofs.lemmas.List.{append-nil}
use Rattle.std.specs.List.{AllByRecursion}
use Rattle.schema_msgs.specs.declared.nested_fields.NestedField.{NestedField}
use Rattle.schema_msgs.specs.Fields.{Fields, NoFields, Field}
use Rattle.schema_msgs.specs.Outline.{outline, fields_at, Nests, IsOutline}
use Rattle.schema_msgs.specs.OutlineCode.{fields_at-less_deep, fields_at-deeper, fields_at-here}

-- what is laid out of the fields at this depth, of those less deep behind them, and so on
unfoldable pub levels : {X : Type 0} → (ℕ → Fields → List X) → ℕ → List NestedField → List X
levels lay zero fs = lay 0 (fields_at 0 fs)
levels lay (suc d) fs = lay (suc d) (fields_at (suc d) fs) ++ levels lay d fs

-- what is laid out of each field by itself, given the fields within it
unfoldable pub flat : {X : Type 0} → (NestedField → Fields → List X) → List NestedField → List X
flat head [] = []
flat head (f ∷ fs) = head f (fields_at (f.depth + 1) fs) ++ flat head fs

-- A layout of fields: each in front of the fields within it.
pub record LaysOut {X : Type 0} (lay : ℕ → Fields → List X) (head : NestedField → Fields → List X) : Type 0 where
  pub none : (d : ℕ) → lay d NoFields ≡ []
  pub one : (d : ℕ) (f : NestedField) (within others : Fields) → f.depth ≡ d → lay d (Field f.name f.column_type f.mode within others) ≡ head f within ++ (lay (d + 1) within ++ lay d others)

levels-none : {X : Type 0} (lay : ℕ → Fields → List X) (head : NestedField → Fields → List X) (h : LaysOut lay head) (d : ℕ) → levels lay d [] ≡ []
unfolding levels fields_at
levels-none lay head h zero = h.none 0
levels-none lay head h (suc d) = rw (h.none (suc d), levels-none lay head h d) refl

levels-high : {X : Type 0} (lay : ℕ → Fields → List X) (head : NestedField → Fields → List X) (h : LaysOut lay head) (d : ℕ) (f : NestedField) (fs : List NestedField) → f.depth ≤ d
    → levels lay d (f ∷ fs) ≡ levels lay f.depth (f ∷ fs)
unfolding levels
levels-high lay head h zero f fs low = let same : 0 ≡ f.depth = omega arith in ap (λ k. levels lay k (f ∷ fs)) same
levels-high lay head h (suc d) f fs low =
    elim (cases_lt f.depth (suc d)) [
      | inl less ↦ rw (fields_at-less_deep (suc d) f fs less, h.none (suc d)) (levels-high lay head h d f fs (omega arith))
      | inr more ↦ let same : suc d ≡ f.depth = omega arith in ap (λ k. levels lay k (f ∷ fs)) same
    ]

levels-low : {X : Type 0} (lay : ℕ → Fields → List X) (d : ℕ) (f : NestedField) (fs : List NestedField) → d < f.depth → levels lay d (f ∷ fs) ≡ levels lay d fs
unfolding levels
levels-low lay zero f fs deep = ap (lay 0) (fields_at-deeper 0 f fs deep)
levels-low lay (suc d) f fs deep = rw (fields_at-deeper (suc d) f fs deep, levels-low lay d f fs (omega arith)) refl

levels-here : {X : Type 0} (lay : ℕ → Fields → List X) (head : NestedField → Fields → List X) (h : LaysOut lay head) (d : ℕ) (f : NestedField) (fs : List NestedField) → f.depth ≡ d
    → levels lay d (f ∷ fs) ≡ head f (fields_at (d + 1) fs) ++ levels lay (d + 1) fs
unfolding levels
levels-here lay head h zero f fs same = ap (lay 0) (fields_at-here 0 f fs same) ∙ h.one 0 f (fields_at 1 fs) (fields_at 0 fs) same
levels-here {X} lay head h (suc d) f fs same =
    let k : suc d + 1 ≡ suc (suc d) = omega arith in
    let within : Fields = fields_at (suc d + 1) fs in
    let others : Fields = fields_at (suc d) fs in
    let below : List X = levels lay d fs in
    let one : lay (suc d) (fields_at (suc d) (f ∷ fs)) ≡ head f within ++ (lay (suc d + 1) within ++ lay (suc d) others) =
    ap (lay (suc d)) (fields_at-here (suc d) f fs same) ∙ h.one (suc d) f within others same in
    let all : levels lay (suc d + 1) fs ≡ lay (suc d + 1) within ++ (lay (suc d) others ++ below) = rw k refl in
    ap (λ xs. xs ++ levels lay d (f ∷ fs)) one
    ∙ ap (λ xs. (head f within ++ (lay (suc d + 1) within ++ lay (suc d) others)) ++ xs) (levels-low lay d f fs (omega arith))
    ∙ append_assoc (head f within) (lay (suc d + 1) within ++ lay (suc d) others) below
    ∙ ap (λ xs. head f within ++ xs) (append_assoc (lay (suc d + 1) within) (lay (suc d) others) below ∙ sym all)

-- Both are the same of an outline.
pub levels-flat : {X : Type 0} (lay : ℕ → Fields → List X) (head : NestedField → Fields → List X) → LaysOut lay head → (d : ℕ) (fs : List NestedField) → Nests d fs → levels lay d fs ≡ flat head fs
unfolding flat Nests
levels-flat lay head h d [] nests = levels-none lay head h d
levels-flat lay head h d (f ∷ fs) nests =
    levels-high lay head h d f fs nests.0 ∙ levels-here lay head h f.depth f fs refl
    ∙ ap (λ xs. head f (fields_at (f.depth + 1) fs) ++ xs) (levels-flat lay head h (f.depth + 1) fs nests.1)

pub laid_flat : {X : Type 0} (lay : ℕ → Fields → List X) (head : NestedField → Fields → List X) → LaysOut lay head → (fs : List NestedField) → IsOutline fs → lay 0 (fields_at 0 fs) ≡ flat head fs
unfolding levels
laid_flat lay head h fs nests = levels-flat lay head h 0 fs nests

-- The outline of what an outline says is that outline.
itself : NestedField → Fields → List NestedField
itself f within = f ∷ []

outline_lays : LaysOut outline itself
unfolding outline itself
outline_lays = record { none = λ d. refl; one = λ d f within others same. ap (λ k. record f { depth = k } ∷ (outline (d + 1) within ++ outline d others)) (sym same) }

flat_itself : (fs : List NestedField) → flat itself fs ≡ fs
unfolding flat itself
flat_itself [] = refl
flat_itself (f ∷ fs) = ap (λ xs. f ∷ xs) (flat_itself fs)

pub outline-fields_at : (fs : List NestedField) → IsOutline fs → outline 0 (fields_at 0 fs) ≡ fs
outline-fields_at fs nests = laid_flat outline itself outline_lays fs nests ∙ flat_itself fs

-- Fields are laid out so that they nest.
nests_more : (m k : ℕ) (fs : List NestedField) → m ≤ k → Nests m fs → Nests k fs
unfolding Nests
nests_more m k [] h nests = tt
nests_more m k (f ∷ fs) h nests = (omega (arith, nests.0), nests.1)

nests_outline : (d most : ℕ) (fs : Fields) (rest : List NestedField) → d ≤ most → Nests d rest → Nests most (outline d fs ++ rest)
unfolding outline Nests
nests_outline d most NoFields rest h nests = nests_more d most rest h nests
nests_outline d most (Field name column_type mode within others) rest h nests =
    let behind : Nests (d + 1) (outline (d + 1) within ++ (outline d others ++ rest)) =
    nests_outline (d + 1) (d + 1) within (outline d others ++ rest) (omega arith) (nests_more d (d + 1) (outline d others ++ rest) (omega arith) (nests_outline d d others rest (omega arith) nests)) in
    (h, subst (Nests (d + 1)) (sym (append_assoc (outline (d + 1) within) (outline d others) rest)) behind)

pub outline_nests : (fs : Fields) → IsOutline (outline 0 fs)
unfolding Nests
outline_nests fs = subst (Nests 0) (append-nil (outline 0 fs)) (nests_outline 0 0 fs [] (omega arith) tt)

-- Columns alone are an outline.
columns_nest : (most : ℕ) (fs : List NestedField) → AllByRecursion (λ f. f.depth ≡ 0) fs → Nests most fs
unfolding Nests
columns_nest most [] flat = tt
columns_nest most (f ∷ fs) flat = (omega (arith, flat.0), columns_nest (f.depth + 1) fs flat.1)

pub columns_are_outline : (fs : List NestedField) → AllByRecursion (λ f. f.depth ≡ 0) fs → IsOutline fs
columns_are_outline fs flat = columns_nest 0 fs flat
