-- Fields are told apart by their outline, since they are read back from it.
use Rattle.std.specs.Prelude.{◌≡◌, ℕ, ℤ, ◌+◌, ◌<◌, List, [], ◌∷◌, ◌++◌, refl}
use Rattle.std.specs.Coded.{Coded, code_by, coded×, coded_ℕ, coded_ℤ, coded_list}
use Rattle.std.proofs.Common.{ap, sym, ◌∙◌, append_assoc, arith}
use Rattle.std.proofs.lemmas.Bool.{lt-ltb, le-ltb}
use Rattle.std.proofs.lemmas.List.{append-nil}
use Rattle.schema_msgs.specs.declared.nested_fields.NestedField.{NestedField}
use Rattle.schema_msgs.specs.Fields.{Fields, NoFields, Field}
use Rattle.schema_msgs.specs.Outline.{outline, fields_at}

pub fields_at-less_deep : (d : ℕ) (f : NestedField) (fs : List NestedField) → f.depth < d → fields_at d (f ∷ fs) ≡ NoFields
unfolding fields_at
fields_at-less_deep d f fs h = rw (lt-ltb f.depth d h) refl

pub fields_at-deeper : (d : ℕ) (f : NestedField) (fs : List NestedField) → d < f.depth → fields_at d (f ∷ fs) ≡ fields_at d fs
unfolding fields_at
fields_at-deeper d f fs h = rw (le-ltb f.depth d (omega arith), lt-ltb d f.depth h) refl

pub fields_at-here : (d : ℕ) (f : NestedField) (fs : List NestedField) → f.depth ≡ d → fields_at d (f ∷ fs) ≡ Field f.name f.column_type f.mode (fields_at (d + 1) fs) (fields_at d fs)
unfolding fields_at
fields_at-here d f fs h = rw (le-ltb f.depth d (omega arith), le-ltb d f.depth (omega arith)) refl

-- the first of these fields lies less deep
abbrev pub Ends : ℕ → List NestedField → Type 0
Ends d [] = Unit {0}
Ends d (f ∷ fs) = f.depth < d

pub fields_at-ended : (d : ℕ) (fs : List NestedField) → Ends d fs → fields_at d fs ≡ NoFields
unfolding fields_at
fields_at-ended d [] h = refl
fields_at-ended d (f ∷ fs) h = fields_at-less_deep d f fs h

ends_deeper : (d : ℕ) (fs : List NestedField) → Ends d fs → Ends (d + 1) fs
ends_deeper d [] h = tt
ends_deeper d (f ∷ fs) h = omega (arith, h)

-- the others end the fields within the one before them
ends_others : (d : ℕ) (others : Fields) (rest : List NestedField) → Ends d rest → Ends (d + 1) (outline d others ++ rest)
unfolding outline
ends_others d NoFields rest h = ends_deeper d rest h
ends_others d (Field name column_type mode within others) rest h = omega arith

-- deeper fields are passed over
pub fields_at-behind : (k d : ℕ) (fs : Fields) (rest : List NestedField) → k < d → fields_at k (outline d fs ++ rest) ≡ fields_at k rest
unfolding outline
fields_at-behind k d NoFields rest h = refl
fields_at-behind k d (Field name column_type mode within others) rest h =
    let first : NestedField = record { depth = d; name = name; column_type = column_type; mode = mode } in
    fields_at-deeper k first ((outline (d + 1) within ++ outline d others) ++ rest) h
    ∙ ap (fields_at k) (append_assoc (outline (d + 1) within) (outline d others) rest)
    ∙ fields_at-behind k (d + 1) within (outline d others ++ rest) (omega arith)
    ∙ fields_at-behind k d others rest h

-- fields are read back from their outline
pub fields_at-in_front : (d : ℕ) (fs : Fields) (rest : List NestedField) → Ends d rest → fields_at d (outline d fs ++ rest) ≡ fs
unfolding outline
fields_at-in_front d NoFields rest h = fields_at-ended d rest h
fields_at-in_front d (Field name column_type mode within others) rest h =
    let first : NestedField = record { depth = d; name = name; column_type = column_type; mode = mode } in
    let behind : List NestedField = (outline (d + 1) within ++ outline d others) ++ rest in
    let grouped = append_assoc (outline (d + 1) within) (outline d others) rest in
    let inner : fields_at (d + 1) behind ≡ within = ap (fields_at (d + 1)) grouped ∙ fields_at-in_front (d + 1) within (outline d others ++ rest) (ends_others d others rest h) in
    let outer : fields_at d behind ≡ others =
    ap (fields_at d) grouped ∙ fields_at-behind d (d + 1) within (outline d others ++ rest) (omega arith) ∙ fields_at-in_front d others rest h in
    fields_at-here d first behind refl ∙ ap (λ fs. Field name column_type mode fs (fields_at d behind)) inner ∙ ap (Field name column_type mode within) outer

pub fields_at-outline : (d : ℕ) (fs : Fields) → fields_at d (outline d fs) ≡ fs
fields_at-outline d fs = ap (fields_at d) (sym (append-nil (outline d fs))) ∙ fields_at-in_front d fs [] tt

abbrev coded_nested : Coded NestedField
coded_nested =
    code_by (ℕ × (List ℕ × (ℤ × ℤ))) (coded× coded_ℕ (coded× (coded_list coded_ℕ) (coded× coded_ℤ coded_ℤ))) (λ f. (f.depth, (f.name, (f.column_type, f.mode))))
    (λ p. record { depth = p.0; name = p.1.0; column_type = p.1.1.0; mode = p.1.1.1 }) (λ _. refl)

abbrev pub coded_fields : Coded Fields
coded_fields = code_by (List NestedField) (coded_list coded_nested) (outline 0) (fields_at 0) (fields_at-outline 0)
