-- What every plan obeys.
use Rattle.std.specs.Prelude.{◌≡◌, ℕ, ℤ, ◌<◌, Bool, true, false, List, length}
use Rattle.table_spec.specs.declared.spec.TableSpec.{TableSpec}
use Rattle.table_model.specs.History.{History}
use Rattle.open_tables.specs.Plans.{Plan, Fixed, At}
use Rattle.conn_requests.specs.declared.asks.Ask.{Ask}
use Rattle.conn_requests.specs.declared.answers.Answer.{Answer}
use Rattle.conn_requests.specs.declared.answers.Answer.TheVariants as answer
use Rattle.conn_requests.specs.Decided.{ends_call}
use Rattle.conn_requests.specs.Names.{Named}
use Rattle.call_plans.specs.Plans.{plan}

-- the plan asks none of the tables, or one of so many
abbrev pub AsksOneOf : {A : Type 0} → (tables : ℕ) → Plan A → Type 0
AsksOneOf tables (Fixed due) = Unit {0}
AsksOneOf tables (At place turn) = place < tables

abbrev pub AsksTables : Type 0
AsksTables = (specs : List TableSpec) (named : Named) (asked : Ask) → AsksOneOf (length specs) (plan specs named asked)

-- each answer that the plan can get
abbrev pub Answers : {A : Type 0} → (A → Type 0) → Plan A → Type 0
Answers Is (Fixed due) = Is due
Answers Is (At place turn) = (history : History) (caller : ℕ) (now : ℤ) → Is (turn history caller now).answer

abbrev pub ends : Answer → Bool
ends (answer.Goes message) = false
ends _ = true

-- the answer ends the call exactly where what was asked does
abbrev pub EndsAsAsked : Type 0
EndsAsAsked = (specs : List TableSpec) (named : Named) (asked : Ask) → Answers (λ given. ends given ≡ ends_call asked) (plan specs named asked)
