-- What is asked of the table of a name, where it is there.
use Rattle.std.proofs.Common.{◌≡◌, ℕ, zero, suc, ◌<◌, List, [], ◌∷◌, length, Some, refl, sym, ap, ◌∙◌, arith}
use Rattle.std.proofs.lemmas.List.{length-map}
use Rattle.std.specs.Prelude.{slice_get}
use Rattle.resource_names.specs.declared.tables.TableName.{TableName}
use Rattle.resource_names.specs.Table.{table_text}
use Rattle.table_spec.specs.declared.spec.TableSpec.{TableSpec}
use Rattle.open_tables.specs.Tables.{OpenTable, place_of, specs_of}
use Rattle.open_tables.specs.Plans.{Plan}
use Rattle.call_plans.specs.Names.{on_spec, on_place, on_table}

pub on_table-there : {A : Type 0} (specs : List TableSpec) (missing : A) (name : TableName) (asks : ℕ → TableSpec → Plan A) (place : ℕ) (spec : TableSpec)
    → Some place ≡ place_of specs (table_text name) → slice_get specs place ≡ Some spec → on_table specs missing name asks ≡ asks place spec
on_table-there specs missing name asks place spec at there =
    ap (λ found. on_place specs missing found asks) (sym at) ∙ ap (λ found. on_spec missing place found (asks place)) there

at_place : {X : Type 0} (xs : List X) (place : ℕ) → place < length xs → (x : X) × (slice_get xs place ≡ Some x)
at_place [] place within = absurd (omega (arith, within))
at_place (x ∷ xs) zero within = (x, refl)
at_place (x ∷ xs) (suc place) within = at_place xs place (omega (arith, within))

-- the spec of a table that is there
pub spec_there : (tables : List OpenTable) (place : ℕ) → place < length tables → (spec : TableSpec) × (slice_get (specs_of tables) place ≡ Some spec)
spec_there tables place within = at_place (specs_of tables) place (omega (arith, within, length-map tables (λ (table : OpenTable). table.0)))
