-- What is written of closed tables.
use Rattle.std.specs.Prelude.{◌≡◌, ℕ, List, [], ◌∷◌, ◌++◌, length, flat_map, Option, Result, Ok, Err, codes, decimal}
use Rattle.std.specs.List.{zip}
use Rattle.std.specs.Io.KnownBytes.{Appends}
use Rattle.outside.specs.Faults.{Rose}
use Rattle.call_body.specs.Reading.{AppendsWhereTold}
use Rattle.table_model.specs.History.{History}
use Rattle.table_model.specs.Legal.{Takes}
use Rattle.table_model.specs.Table.{Table}
use Rattle.table_model.specs.Visible.{visible_of}
use Rattle.table_spec.specs.declared.spec.TableSpec.{TableSpec}
use Rattle.table_engine.specs.Turns.{Allows}
use Rattle.turn_table.specs.Turn.{IsLegal}
use Rattle.turn_table.specs.View.{Reaches}
use Rattle.open_tables.specs.Tables.{TableView, OpenTable, specs_of}
use Rattle.open_tables.specs.Plans.{caller_in}
use Rattle.server.specs.declared.faults.ServeFault.{ServeFault}
use Rattle.server.specs.declared.faults.ServeFault.TheVariants as fault

-- A table was closed with a pass. Its history is legal and begins with all that the pass had seen, behind which stands no
-- entry of the pass; where the pass is alone, it is exactly that.
pub record IsClosed (table : OpenTable) (pass : TableView) (engine : Table) : Type 0 where
  pub columns : engine.columns ≡ table.0.schema
  pub reaches : Reaches caller_in pass engine.entries
  pub legal : IsLegal (Takes engine.columns) (Allows engine.columns) engine.entries

-- each table with its pass, in their order
abbrev pub AreClosed : List OpenTable → List TableView → List Table → Type 0
AreClosed [] [] [] = Unit {0}
AreClosed (table ∷ tables) (pass ∷ passes) (engine ∷ engines) = IsClosed table pass engine × AreClosed tables passes engines
AreClosed _ _ _ = ⊥

-- `NAME entries E visible V` and a line feed: the length of the history, and of its visible rows
abbrev pub line_of : (name : List ℕ) → History → List ℕ
line_of name history = name ++ codes " entries " ++ decimal (length history) ++ codes " visible " ++ decimal (length (visible_of history)) ++ codes "\n"

-- a line for each table, in their order
abbrev pub report_of : List TableSpec → List Table → List ℕ
report_of specs engines = flat_map (λ both. line_of both.0.name both.1.entries) (zip specs engines)

-- The tables were closed with these passes, and their lines were written.
pub record Reports (tables : List OpenTable) (passes : List TableView) (before now : Option (List ℕ)) (engines : List Table) : Type 0 where
  pub closed : AreClosed tables passes engines
  pub written : Appends before now (report_of (specs_of tables) engines)

-- only a fault of the sink changes its count
abbrev pub ReportCause : {T : Type 0} → ℕ → ℕ → Result T ServeFault → Type 0
ReportCause before now (Ok engines) = now ≡ before
ReportCause before now (Err fault.Outside) = Rose before now
ReportCause before now (Err fault.Memory) = now ≡ before

-- The tables were closed, and of their lines the first bytes were written, where the sink tells them.
pub record ReportsPartly (tables : List OpenTable) (passes : List TableView) (before now : Option (List ℕ)) : Type 0 where
  pub engines : List Table
  pub closed : AreClosed tables passes engines
  pub written : List ℕ
  pub unwritten : List ℕ
  pub of : report_of (specs_of tables) engines ≡ written ++ unwritten
  pub appends : AppendsWhereTold before now written

-- what was written where the report failed: at want of memory nothing
abbrev pub KeepsWritten : {T : Type 0} → List OpenTable → List TableView → (before now : Option (List ℕ)) → Result T ServeFault → Type 0
KeepsWritten tables passes before now (Ok engines) = Unit {0}
KeepsWritten tables passes before now (Err fault.Outside) = ReportsPartly tables passes before now
KeepsWritten tables passes before now (Err fault.Memory) = now ≡ before
