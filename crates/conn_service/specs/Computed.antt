-- The answers of a connection where no other pass acts: the histories are computed.
use Rattle.std.specs.Prelude.{◌≡◌, ◌⊎◌, ℕ, ℤ, true, List, [], ◌∷◌, map, set, slice_get, Some}
use Rattle.table_model.specs.History.{History}
use Rattle.turn_table.specs.Turn.{with_entry}
use Rattle.conn_requests.specs.declared.answers.Answer.{Answer}
use Rattle.conn_requests.specs.Ends.{lost_answer}
use Rattle.conn_requests.specs.Decided.{Answered}
use Rattle.open_tables.specs.Tables.{TableView}
use Rattle.open_tables.specs.Plans.{Plan, Fixed, At, TurnFor, Turned}
use Rattle.conn_service.specs.Served.{Planning, plan_of}

-- no other pass acts on the tables
abbrev pub AreAlone : List TableView → Type 0
AreAlone [] = Unit {0}
AreAlone (view ∷ views) = (view.alone ≡ true) × AreAlone views

-- the number of the pass to each table, and the history that it has seen
abbrev pub numbers_of : List TableView → List ℕ
numbers_of passes = map (λ view. view.number) passes

abbrev pub histories_of : List TableView → List History
histories_of passes = map (λ view. view.seen) passes

-- what the table at a place gives, where the passes have these numbers and the tables these histories
abbrev pub turned_at : (number : ℕ) → History → TurnFor Answer → (now : ℤ) → Turned Answer
turned_at number history turn now = turn history number now

-- the histories behind that: the table at the place has the entry more, if there is one
abbrev pub histories_with : List History → (place : ℕ) → History → Turned Answer → List History
histories_with histories place history turned = set histories place (with_entry history turned.entry)

-- What the table at a place gives is the answer, and its entry, if there is one, is entered. Of a lost answer the entry
-- may be there or not.
pub record ComputesAt (numbers : List ℕ) (histories : List History) (place : ℕ) (turn : TurnFor Answer) (x : Answered) (after : List History) : Type 0 where
  pub number : ℕ
  pub history : History
  pub is_number : slice_get numbers place ≡ Some number
  pub is_history : slice_get histories place ≡ Some history
  pub answered : ((x.answer ≡ (turned_at number history turn x.now).answer) × (after ≡ histories_with histories place history (turned_at number history turn x.now)))
      ⊎ ((x.answer ≡ lost_answer) × ((after ≡ histories) ⊎ (after ≡ histories_with histories place history (turned_at number history turn x.now))))

-- The answer and the histories behind it. An answer that is lost may not have come to its table.
abbrev pub ComputesOne : List ℕ → List History → Plan Answer → Answered → List History → Type 0
ComputesOne numbers histories (Fixed due) x after = ((x.answer ≡ due) ⊎ (x.answer ≡ lost_answer)) × (after ≡ histories)
ComputesOne numbers histories (At place turn) x after = ComputesAt numbers histories place turn x after ⊎ ((x.answer ≡ lost_answer) × (after ≡ histories))

-- each from the histories that the earlier ones left
abbrev pub Computes : Planning → List ℕ → List History → List Answered → List History → Type 0
Computes plan numbers histories [] after = after ≡ histories
Computes plan numbers histories (x ∷ xs) after =
    (between : List History) × ComputesOne numbers histories (plan_of plan x) x between × Computes plan numbers between xs after
