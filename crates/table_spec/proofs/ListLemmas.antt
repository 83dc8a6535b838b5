-- Lists of what may be missing.
use Rattle.std.proofs.Common.{◌≡◌, List, [], ◌∷◌, ◌++◌, Option, Some, None, refl, sym, ap, ◌∙◌}
use Rattle.std.specs.Prelude.{option_and_then}
use Rattle.table_spec.specs.Columns.{all_of}

-- a list in front of another, if that is there
abbrev pub with_front : {A : Type 0} → List A → Option (List A) → Option (List A)
with_front front others = option_and_then (λ xs. Some (front ++ xs)) others
