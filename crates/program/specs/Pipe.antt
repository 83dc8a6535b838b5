-- The command that serves one connection.
use Rattle.std.specs.Prelude.{◌≡◌, ℕ, List, [], map}
use Rattle.table_spec.specs.declared.spec.TableSpec.{TableSpec}
use Rattle.open_tables.specs.Tables.{TableView, OpenTable, specs_of, first_passes}
use Rattle.call_plans.specs.Plans.{plan}
use Rattle.conn_service.specs.declared.ending.Ending.{Ending}
use Rattle.conn_service.specs.declared.ending.Ending.TheVariants as ending
use Rattle.conn_service.specs.Serves.{Shown, Serves}
use Rattle.conn_service.specs.Computed.{Computes, histories_of}

-- One connection was served over new tables of these names and columns. Their histories begin empty, and hold exactly the
-- entries of its own requests: each answer is computed from the history that the earlier ones left.
pub record Pipes (specs : List TableSpec) (before after : Shown) (end : Ending) : Type 0 where
  pub tables : List OpenTable
  pub are : specs_of tables ≡ specs
  pub passes : List TableView
  pub served : Serves (plan specs) (first_passes tables) passes before after end
  pub computed : Computes (plan specs) (map (λ table. 0) tables) (map (λ table. []) tables) served.answers (histories_of passes)

-- the status of the program
abbrev pub status_of_ending : Ending → ℕ
status_of_ending ending.Done = 0
status_of_ending ending.LinkFault = 3
status_of_ending ending.Memory = 4
status_of_ending (ending.Goaway code rule) = 5
status_of_ending (ending.Cut have need) = 6
