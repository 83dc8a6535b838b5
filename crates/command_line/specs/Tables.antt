-- The tables of a command line: 1 to 8, with different names.
use Rattle.std.specs.Prelude.{ℕ, ◌≤◌, Bool, true, not, ◌&&◌, List, [], ◌∷◌, length, IsTrue}
use Rattle.std.specs.List.{list_any}
use Rattle.std.specs.Str.{bytes_eq}
use Rattle.table_spec.specs.Spec.{IsSpec}
use Rattle.table_spec.specs.declared.spec.TableSpec.{TableSpec}

-- the tables that the texts describe, one for each
abbrev pub AreSpecs : List (List ℕ) → List TableSpec → Type 0
AreSpecs [] [] = Unit {0}
AreSpecs [] (table ∷ tables) = ⊥
AreSpecs (text ∷ texts) [] = ⊥
AreSpecs (text ∷ texts) (table ∷ tables) = IsSpec text table × AreSpecs texts tables

abbrev pub has_name : List TableSpec → List ℕ → Bool
has_name tables name = list_any (λ table. bytes_eq table.name name) tables

-- no table has the name of a later one
abbrev pub are_distinct : List TableSpec → Bool
are_distinct [] = true
are_distinct (table ∷ tables) = not (has_name tables table.name) && are_distinct tables

pub record AreTables (texts : List (List ℕ)) (tables : List TableSpec) : Type 0 where
  pub some : 1 ≤ length texts
  pub most : length texts ≤ 8
  pub specs : AreSpecs texts tables
  pub distinct : IsTrue (are_distinct tables)
