-- What a CreateReadSession call comes to before its table is asked.
use Rattle.std.specs.Prelude.{◌≡◌, ℕ, ◌<◌, ℤ, List, length, slice_get, Some}
use Rattle.column_types.specs.declared.column.Column.{Column}
use Rattle.column_types.specs.Fields.{IsMadeFor, unknown_name}
use Rattle.column_types.specs.Typed.{IsTyped}
use Rattle.resource_names.specs.declared.projects.ProjectName.{ProjectName}
use Rattle.resource_names.specs.Project.{project_name_of}
use Rattle.resource_names.specs.Table.{table_name_of}
use Rattle.table_spec.specs.declared.spec.TableSpec.{TableSpec}
use Rattle.read_msgs.specs.declared.sessions.ReadSession.{ReadSession}
use Rattle.open_tables.specs.Tables.{OpenTable, specs_of}
use Rattle.open_tables.specs.Plans.{Fixed, At}
use Rattle.call_plans.specs.Endings.{refused_for}
use Rattle.call_plans.specs.Sessions.{options_in, snapshot_in, session_turn, session_with, session_on}
use Rattle.call_read.specs.declared.choosing.Chosen.{Chosen}
use Rattle.call_read.specs.declared.choosing.Chosen.TheVariants as chosen
use Rattle.call_read.specs.declared.wanting.Wanted.{Wanted}
use Rattle.call_read.specs.declared.wanting.Wanting.{Wanting}
use Rattle.call_read.specs.declared.wanting.Wanting.TheVariants as wanting

-- The columns and the rows that the options of a session choose, or why there are none, whatever else is asked.
abbrev pub Chooses : List Column → ReadSession → Chosen → Type 0
Chooses columns session (chosen.Refused cause) =
    let names = (options_in session).selected_fields in
    (project : ProjectName) (place : ℕ) (count : ℤ) → session_with project session place columns count names (unknown_name columns names) ≡ Fixed (refused_for cause)
Chooses columns session (chosen.Rows fields pred) =
    let names = (options_in session).selected_fields in
    IsMadeFor columns fields × IsTyped columns pred
    × ((project : ProjectName) (place : ℕ) (count : ℤ) → session_with project session place columns count names (unknown_name columns names) ≡ At place (session_turn project session place columns count fields pred))

-- The plan of a session asks the table at a place to begin it, which takes the command.
pub record IsWanted (tables : List OpenTable) (session : ReadSession) (parent : List ℕ) (count : ℤ) (asked : Wanted) : Type 0 where
  pub spec : TableSpec
  pub found : slice_get (specs_of tables) asked.place ≡ Some spec
  pub within : asked.place < length tables
  pub made : IsMadeFor spec.schema asked.fields
  pub typed : IsTyped spec.schema asked.pred
  pub snapshot : asked.snapshot ≡ snapshot_in session
  pub plan : session_on (specs_of tables) session count (project_name_of parent) (table_name_of session.table)
      ≡ At asked.place (session_turn asked.project session asked.place spec.schema count asked.fields asked.pred)

abbrev pub Wants : List OpenTable → ReadSession → (parent : List ℕ) → (count : ℤ) → Wanting → Type 0
Wants tables session parent count (wanting.Refused cause) =
    session_on (specs_of tables) session count (project_name_of parent) (table_name_of session.table) ≡ Fixed (refused_for cause)
Wants tables session parent count (wanting.Asks asked) = IsWanted tables session parent count asked
