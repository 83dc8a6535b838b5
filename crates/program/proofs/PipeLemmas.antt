-- One connection over new tables, and one for which memory was wanting at its start.
use Rattle.std.proofs.Common.{◌≡◌, ℕ, List, [], ◌∷◌, map, refl, ap, subst}
use Rattle.open_tables.specs.Tables.{TableView, OpenTable, specs_of, first_passes}
use Rattle.atomic_table.specs.Seated.{TableId}
use Rattle.table_spec.specs.declared.spec.TableSpec.{TableSpec}
use Rattle.table_model.specs.History.{History}
use Rattle.call_plans.specs.Plans.{plan}
use Rattle.conn_requests.specs.Decided.{Answered}
use Rattle.conn_service.specs.declared.ending.Ending.{Ending}
use Rattle.conn_service.specs.declared.ending.Ending.TheVariants as ending
use Rattle.conn_service.specs.Served.{Served}
use Rattle.conn_service.specs.Serves.{Shown, Serves}
use Rattle.conn_service.specs.Computed.{Computes, numbers_of, histories_of}
use Rattle.conn_service.proofs.AloneLemmas.{served-computed}
use Rattle.conn_service.proofs.PassLemmas.{first-alone}
use Rattle.conn_loop.proofs.NothingLemmas.{nothing-served}
use Rattle.program.specs.Pipe.{Pipes}

-- where no other pass acts on new tables, the histories are computed
computed : (specs : List TableSpec) (tables : List OpenTable) (passes : List TableView) (answers : List Answered) → Served (plan specs) (first_passes tables) answers passes
    → Computes (plan specs) (map (λ table. 0) tables) (map (λ table. []) tables) answers (histories_of passes)
computed specs tables passes answers served =
    let first = first-alone tables in
    let P : List ℕ → Type 0 = λ numbers. Computes (plan specs) numbers (map (λ table. []) tables) answers (histories_of passes) in
    let Q : List History → Type 0 = λ histories. Computes (plan specs) (numbers_of (first_passes tables)) histories answers (histories_of passes) in
    subst P first.1 (subst Q first.2 (served-computed (plan specs) (first_passes tables) passes answers first.0 served).0)

piped : (specs : List TableSpec) (tables : List OpenTable) (passes : List TableView) (before after : Shown) (end : Ending)
    → specs_of tables ≡ specs → Serves (plan specs) (first_passes tables) passes before after end → Pipes specs before after end
piped specs tables passes before after end are s = record {
  tables = tables;
  are = are;
  passes = passes;
  served = s;
  computed = computed specs tables passes s.answers s.served;
}

-- the tables have these specs, and the passes are the first to them
pub piped_as : (specs : List TableSpec) (tables : List OpenTable) (first passes : List TableView) (before after : Shown) (end : Ending)
    → specs_of tables ≡ specs → first ≡ first_passes tables → Serves (plan (specs_of tables)) first passes before after end → Pipes specs before after end
piped_as specs tables first passes before after end are is s =
    let P : List TableSpec → Type 0 = λ given. Serves (plan given) first passes before after end in
    let Q : List TableView → Type 0 = λ views. Serves (plan specs) views passes before after end in
    piped specs tables passes before after end are (subst Q is (subst P are s))

-- ---- memory was wanting before there are tables

no_table : TableId
no_table = record { words = 0; slots = 0; views_name = 0; atom = 0; block = 0; offset = 0; slot_names = [] }

some_tables : List TableSpec → List OpenTable
some_tables specs = map (λ spec. (spec, record { table = no_table; fixed = spec.schema })) specs

their_specs : (specs : List TableSpec) → specs_of (some_tables specs) ≡ specs
unfolding some_tables
their_specs [] = refl
their_specs (spec ∷ specs) = ap (λ others. spec ∷ others) (their_specs specs)

pub nothing_piped : (specs : List TableSpec) (now : Shown) → Pipes specs now now ending.Memory
nothing_piped specs now =
    let tables = some_tables specs in
    piped specs tables (first_passes tables) now now ending.Memory (their_specs specs) (nothing-served (plan specs) (first_passes tables) now)
