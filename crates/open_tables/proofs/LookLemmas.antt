-- A look at a table by its pass.
use Rattle.std.proofs.Common.{◌≡◌, inl, inr, ℕ, ℤ, List, set, Option, Some, Result, Ok, Err, ap, ◌∙◌, subst}
use Rattle.std.specs.Prelude.{slice_get, IfOk, OnErr}
use Rattle.outside.specs.declared.wants.Memory.{Memory}
use Rattle.column_types.specs.declared.column.Column.{Column}
use Rattle.table_model.specs.History.{History}
use Rattle.table_spec.specs.declared.spec.TableSpec.{TableSpec}
use Rattle.table_engine.specs.declared.looks.Key.{Key}
use Rattle.table_engine.specs.declared.looks.Held.{Held}
use Rattle.table_engine.specs.Looks.{Looks}
use Rattle.turn_table.specs.View.{LooksBy}
use Rattle.open_tables.specs.Tables.{TableView}
use Rattle.open_tables.specs.Plans.{At, Gets, SeesAt, Loses, on_history, caller_in}
use Rattle.open_tables.specs.Looked.{LooksAt}
use Rattle.open_tables.proofs.TableLemmas.{HasColumns, columns_at}

module _ (specs : List TableSpec) (passes after : List TableView) (place : ℕ) (view new : TableView) (key : Key) (found : slice_get passes place ≡ Some view) (behind : after ≡ set passes place new) (has : HasColumns specs place view.fixed) where
  -- the look is the table's
  pub looks : (result : Result (Option Held) Memory) → LooksBy caller_in Looks view key result new
      → IfOk result (λ look. (spec : TableSpec) → slice_get specs place ≡ Some spec → LooksAt passes place spec.schema key look after)
  looks (Ok look) (point, reaches, allowed, is) = λ spec at.
      let P : List Column → Type 0 = λ columns. Looks columns point key look in
      record {
        view = view;
        point = point;
        found = found;
        reaches = reaches;
        behind = behind ∙ ap (λ pass. set passes place pass) is;
        looks = subst P (columns_at (slice_get specs place) view.fixed spec has at) allowed;
      }
  looks (Err memory) looked = tt

  -- at want of memory the pass has seen a point too
  pub looks-sees : (result : Result (Option Held) Memory) → LooksBy caller_in Looks view key result new → OnErr result (SeesAt passes place after)
  looks-sees (Ok look) looked = tt
  looks-sees (Err memory) (point, reaches, is) = record {
    view = view;
    point = point;
    found = found;
    reaches = reaches;
    behind = behind ∙ ap (λ pass. set passes place pass) is;
  }

module _ {A : Type 0} (passes after : List TableView) (place : ℕ) (now : ℤ) (told : History → ℤ → A) where
  -- what is told of a history is got where it is told of the point of a look
  pub gets-looked : (columns : List Column) (key : Key) (look : Option Held) (answer : A) (looked : LooksAt passes place columns key look after)
      → answer ≡ told looked.point now → Gets passes (At place (on_history told)) now answer after
  gets-looked columns key look answer looked is = record {
    view = looked.view;
    point = looked.point;
    found = looked.found;
    reaches = looked.reaches;
    is = is;
    behind = looked.behind;
  }

  -- it is lost where the pass has seen a point
  pub loses-seen : SeesAt passes place after → Loses passes (At place (on_history told)) now after
  loses-seen sees = inr (record {
    view = sees.view;
    point = sees.point;
    found = sees.found;
    reaches = sees.reaches;
    behind = inl sees.behind;
  })

-- who looked has seen a point
pub seen-looked : (passes after : List TableView) (place : ℕ) (columns : List Column) (key : Key) (look : Option Held) → LooksAt passes place columns key look after → SeesAt passes place after
seen-looked passes after place columns key look looked = record {
  view = looked.view;
  point = looked.point;
  found = looked.found;
  reaches = looked.reaches;
  behind = looked.behind;
}
