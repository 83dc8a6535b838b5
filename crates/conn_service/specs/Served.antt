-- The answers of a connection, each at a point of its table's history.
use Rattle.std.specs.Prelude.{◌≡◌, ◌⊎◌, ℕ, List, [], ◌∷◌}
use Rattle.grpc_meta.specs.declared.methods.Method.{Method}
use Rattle.h2_record.specs.Written.{IsFront}
use Rattle.conn_requests.specs.declared.asks.Ask.{Ask}
use Rattle.conn_requests.specs.declared.asks.Ask.TheVariants as ask
use Rattle.conn_requests.specs.declared.answers.Answer.{Answer}
use Rattle.conn_requests.specs.Names.{Named}
use Rattle.conn_requests.specs.Ends.{end_answer, lost_answer}
use Rattle.conn_requests.specs.Decided.{Answered}
use Rattle.open_tables.specs.Tables.{TableView}
use Rattle.open_tables.specs.Plans.{Plan, Fixed, Gets, Loses}

-- what is asked of the tables by what was decided: by what its call has named so far, this included, and what is asked
abbrev pub Planning : Type 0
Planning = Named → Ask → Plan Answer

-- A message of AppendRows and the message of another call ask by their plans. The end of a call asks no table.
abbrev pub planning : (appended : Named → (message : List ℕ) → Plan Answer) → (called : Method → (message : List ℕ) → Plan Answer) → Planning
planning appended called named (ask.Append message) = appended named message
planning appended called named (ask.Call method message) = called method message
planning appended called named (ask.Ends over) = Fixed (end_answer over)

abbrev pub plan_of : Planning → Answered → Plan Answer
plan_of plan x = plan x.item.named x.item.asked

-- An item has the answer of its plan, or its answer is lost for want of memory.
abbrev pub AnswersOne : Planning → List TableView → Answered → List TableView → Type 0
AnswersOne plan passes x after = Gets passes (plan_of plan x) x.now x.answer after ⊎ ((x.answer ≡ lost_answer) × Loses passes (plan_of plan x) x.now after)

-- Each is answered in its turn, from what the earlier ones left; nothing else changes the passes.
abbrev pub Served : Planning → List TableView → List Answered → List TableView → Type 0
Served plan passes [] after = after ≡ passes
Served plan passes (x ∷ xs) after = (between : List TableView) × AnswersOne plan passes x between × Served plan between xs after

-- ---- what it leaves of the passes

-- The same pass has seen more.
pub record PassGoesOn (old new : TableView) : Type 0 where
  pub number : new.number ≡ old.number
  pub bound : new.bound ≡ old.bound
  pub alone : new.alone ≡ old.alone
  pub fixed : new.fixed ≡ old.fixed
  pub seen : IsFront old.seen new.seen

abbrev pub EachGoesOn : List TableView → List TableView → Type 0
EachGoesOn [] [] = Unit {0}
EachGoesOn [] (new ∷ after) = ⊥
EachGoesOn (old ∷ passes) [] = ⊥
EachGoesOn (old ∷ passes) (new ∷ after) = PassGoesOn old new × EachGoesOn passes after
