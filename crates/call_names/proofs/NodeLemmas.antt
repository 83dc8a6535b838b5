-- What is asked of the table of a read stream, where it is there.
use Rattle.std.proofs.Common.{◌≡◌, ℕ, zero, suc, ◌≤◌, Bool, true, false, List, [], ◌∷◌, length, Option, Some, None, refl, ap, ◌∙◌, arith, if◌then◌else◌}
use Rattle.std.proofs.lemmas.Bool.Decides.{nat_tests}
use Rattle.std.proofs.lemmas.List.{length-map}
use Rattle.std.specs.Prelude.{slice_get, nat_lt}
use Rattle.resource_names.specs.declared.read_streams.ReadName.{ReadName}
use Rattle.resource_names.specs.declared.read_streams.ReadPlace.{ReadPlace}
use Rattle.resource_names.specs.Read.{place_of}
use Rattle.table_spec.specs.declared.spec.TableSpec.{TableSpec}
use Rattle.open_tables.specs.Tables.{OpenTable, specs_of}
use Rattle.open_tables.specs.Plans.{Plan, Fixed}
use Rattle.call_plans.specs.Names.{on_spec}
use Rattle.call_plans.specs.ReadNames.{on_node, on_read}
use Rattle.call_names.specs.Nodes.{node_there, node_of}

beyond : {X : Type 0} (xs : List X) (place : ℕ) → length xs ≤ place → slice_get xs place ≡ None
beyond [] place out = refl
beyond (x ∷ xs) zero out = absurd (omega (arith, out))
beyond (x ∷ xs) (suc place) out = beyond xs place (omega (arith, out))

module _ {A : Type 0} (tables : List OpenTable) (missing : A) (asks : ReadPlace → TableSpec → Plan A) where
  count : length (specs_of tables) ≡ length tables
  count = length-map tables (λ (table : OpenTable). table.0)

  missed : (node : Option ReadPlace) → None ≡ node_there (length tables) node → on_node (specs_of tables) missing node asks ≡ Fixed missing
  missed None none = refl
  missed (Some node) none = by_place (nat_lt node.table (length tables)) refl none
    where
      by_place : (test : Bool) → nat_lt node.table (length tables) ≡ test → None ≡ (if test then Some node else None) → on_node (specs_of tables) missing (Some node) asks ≡ Fixed missing
      by_place true is none = absurd cc
      by_place false is none =
          let out : length tables ≤ node.table = grind (arith, nat_tests) in
          ap (λ found. on_spec missing node.table found (λ spec. asks node spec)) (beyond (specs_of tables) node.table (omega (arith, out, count)))

  met : (named : Option ReadPlace) (node : ReadPlace) (spec : TableSpec) → Some node ≡ node_there (length tables) named → slice_get (specs_of tables) node.table ≡ Some spec
      → on_node (specs_of tables) missing named asks ≡ asks node spec
  met None node spec some there = absurd cc
  met (Some named) node spec some there = by_place (nat_lt named.table (length tables)) some
    where
      by_place : (test : Bool) → Some node ≡ (if test then Some named else None) → on_node (specs_of tables) missing (Some named) asks ≡ asks node spec
      by_place true some =
          let same : named ≡ node = cc in
          ap (λ (n : ReadPlace). on_node (specs_of tables) missing (Some n) asks) same ∙ ap (λ found. on_spec missing node.table found (λ spec. asks node spec)) there
      by_place false some = absurd cc

  -- what is answered where there is no such table
  pub on_read-none : (name : ReadName) → None ≡ node_of (length tables) name → on_read (specs_of tables) missing name asks ≡ Fixed missing
  on_read-none name none = missed (place_of name) none

  -- what is asked of the table
  pub on_read-there : (name : ReadName) (node : ReadPlace) (spec : TableSpec) → Some node ≡ node_of (length tables) name → slice_get (specs_of tables) node.table ≡ Some spec
      → on_read (specs_of tables) missing name asks ≡ asks node spec
  on_read-there name node spec some there = met (place_of name) node spec some there
