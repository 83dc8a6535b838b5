-- The tables of a server, and the passes of one caller to them.
use Rattle.std.specs.Prelude.{◌≡◌, ℕ, ◌<◌, ◌≤◌, List, [], ◌∷◌, map, length, position, slice_get, Option, IfSome, All}
use Rattle.std.specs.List.{IsDistinct}
use Rattle.std.specs.Str.{bytes_eq}
use Rattle.column_types.specs.declared.column.Column.{Column}
use Rattle.table_spec.specs.declared.spec.TableSpec.{TableSpec}
use Rattle.table_model.specs.declared.commands.Command.{Command}
use Rattle.table_model.specs.declared.entries.Entry.{Entry}
use Rattle.table_model.specs.Legal.{Takes}
use Rattle.turn_table.specs.View.{View, Home, IsOf, first_pass}
use Rattle.open_tables.specs.declared.tables.TheConstants.{MAX_TABLES}

-- what a pass to a table shows
abbrev pub TableView : Type 0
TableView = View Entry (List Column)

-- a table: its name and columns, and its turn
abbrev pub OpenTable : Type 0
OpenTable = TableSpec × Home (List Column)

abbrev pub specs_of : List OpenTable → List TableSpec
specs_of tables = map (λ table. table.0) tables

-- the place of the first table of this name
abbrev pub place_of : List TableSpec → List ℕ → Option ℕ
place_of specs name = position (λ spec. bytes_eq spec.name name) specs

-- The tables of a server: 1 to 8, no two of one name.
pub record AreTables (specs : List TableSpec) : Type 0 where
  pub some : 0 < length specs
  pub few : length specs ≤ MAX_TABLES
  pub distinct : IsDistinct bytes_eq (map (λ spec. spec.name) specs)

-- the machine behind a table's turn has the table's columns
abbrev pub HasItsColumns : OpenTable → Type 0
HasItsColumns table = table.1.fixed ≡ table.0.schema

-- open tables
pub record AreOpen (each : List OpenTable) : Type 0 where
  pub tables : AreTables (specs_of each)
  pub columns : All HasItsColumns each

-- The passes are the tables': one to each, in their order.
abbrev pub AreTheirs : List OpenTable → List TableView → Type 0
AreTheirs [] [] = Unit {0}
AreTheirs [] (view ∷ views) = ⊥
AreTheirs (table ∷ tables) [] = ⊥
AreTheirs (table ∷ tables) (view ∷ views) = IsOf table.1 view × AreTheirs tables views

-- the first passes to tables: each is alone, and has seen the empty history
abbrev pub first_passes : List OpenTable → List TableView
first_passes tables = map (λ table. first_pass table.1) tables

-- The table at this place takes the command.
abbrev pub TakesAt : List TableSpec → (place : ℕ) → Command → Type 0
TakesAt specs place command = IfSome (slice_get specs place) (λ spec. Takes spec.schema command)
