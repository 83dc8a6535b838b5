-- What a look at a table tells, and what its pass has then seen.
use Rattle.std.specs.Prelude.{◌≡◌, ℕ, List, slice_get, set, Option, Some}
use Rattle.column_types.specs.declared.column.Column.{Column}
use Rattle.table_model.specs.History.{History}
use Rattle.table_engine.specs.declared.looks.Key.{Key}
use Rattle.table_engine.specs.declared.looks.Held.{Held}
use Rattle.table_engine.specs.Looks.{Looks}
use Rattle.turn_table.specs.View.{Reaches, seeing}
use Rattle.open_tables.specs.Tables.{TableView}
use Rattle.open_tables.specs.Plans.{caller_in}

-- The look is the table's, which has these columns, at a point of its history. The pass to it has then seen that point,
-- and no entry was added.
pub record LooksAt (passes : List TableView) (place : ℕ) (columns : List Column) (key : Key) (look : Option Held) (after : List TableView) : Type 0 where
  pub view : TableView
  pub point : History
  pub found : slice_get passes place ≡ Some view
  pub reaches : Reaches caller_in view point
  pub behind : after ≡ set passes place (seeing view point)
  pub looks : Looks columns point key look
