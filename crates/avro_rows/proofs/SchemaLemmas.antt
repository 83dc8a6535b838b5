-- One field more of the schema's text.
use Rattle.std.proofs.Common.{◌≡◌, ℕ, ◌+◌, ◌<◌, List, [], ◌∷◌, ◌++◌, length, drop, get_or, Some, refl, sym, ◌∙◌, ap, append_assoc}
use Rattle.std.specs.Prelude.{slice_get, All}
use Rattle.std.proofs.lemmas.Option.{slice_get-get_or}
use Rattle.std.proofs.lemmas.List.Elements.{All-head, All-tail}
use Rattle.column_types.specs.declared.column.Column.{Column}
use Rattle.column_types.specs.Fields.{projected}
use Rattle.avro_rows.specs.SchemaText.{field_text, more_fields, field_list}
use Rattle.avro_rows.proofs.RowLemmas.{column-found, projected-drop}

pub push-field : (columns : List Column) (numbers : List ℕ) (i : ℕ) (column : Column) (out comma new whole : List ℕ) → i < length numbers →
    All (λ number. number < length columns) numbers → column ≡ get_or columns (get_or numbers i 0) column → comma ≡ out ++ 44 ∷ [] → new ≡ comma ++ field_text column →
    out ++ more_fields (projected (drop i numbers) columns) ≡ whole → new ++ more_fields (projected (drop (i + 1) numbers) columns) ≡ whole
push-field columns numbers i column out comma new whole h within e parted put is =
    let chosen : projected (drop i numbers) columns ≡ column ∷ projected (drop (i + 1) numbers) columns =
    projected-drop columns numbers i column h (column-found columns numbers i column h within e)
    in
    let before : out ++ (44 ∷ (field_text column ++ more_fields (projected (drop (i + 1) numbers) columns))) ≡ whole = rw chosen at is in
    ap (λ s. s ++ more_fields (projected (drop (i + 1) numbers) columns)) (put ∙ ap (λ s. s ++ field_text column) parted) ∙
    append_assoc (out ++ 44 ∷ []) (field_text column) (more_fields (projected (drop (i + 1) numbers) columns)) ∙
    append_assoc out (44 ∷ []) (field_text column ++ more_fields (projected (drop (i + 1) numbers) columns)) ∙ before

-- the numbers behind the first are columns' too
pub within-more : (columns : List Column) (numbers more : List ℕ) (first : ℕ) → numbers ≡ first ∷ more → All (λ number. number < length columns) numbers →
    All (λ number. number < length columns) more
within-more columns numbers more first e within = All-tail (λ number. number < length columns) first more (rw e at within)

pub within-first : (columns : List Column) (numbers more : List ℕ) (first : ℕ) → numbers ≡ first ∷ more → All (λ number. number < length columns) numbers → first < length columns
within-first columns numbers more first e within = All-head (λ number. number < length columns) first more (rw e at within)

pub push-first : (columns : List Column) (numbers more : List ℕ) (first : ℕ) (column : Column) (out middle new : List ℕ) → numbers ≡ first ∷ more →
    All (λ number. number < length columns) numbers → column ≡ get_or columns first column → middle ≡ out ++ field_text column →
    new ≡ middle ++ more_fields (projected more columns) → new ≡ out ++ field_list (projected numbers columns)
push-first columns numbers more first column out middle new e within is put behind =
    let found : slice_get columns first ≡ Some column =
    slice_get-get_or columns first column (within-first columns numbers more first e within) ∙ ap Some (sym is)
    in
    let chosen : projected numbers columns ≡ column ∷ projected more columns = rw (e, found) refl in
    behind ∙ ap (λ s. s ++ more_fields (projected more columns)) put ∙ append_assoc out (field_text column) (more_fields (projected more columns)) ∙
    ap (λ cs. out ++ field_list cs) (sym chosen)

-- the head, the fields and the end
pub text-parts : (start first second third text head fields end : List ℕ) → start ≡ [] → first ≡ start ++ head → second ≡ first ++ fields → third ≡ second ++ end → text ≡ third →
    text ≡ head ++ fields ++ end
text-parts start first second third text head fields end none with_head with_fields with_end is =
    is ∙ with_end ∙ ap (λ s. s ++ end) (with_fields ∙ ap (λ s. s ++ fields) (with_head ∙ ap (λ s. s ++ head) none))
