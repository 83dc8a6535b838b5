-- Where no other pass acts, each table's history is the one that its pass has seen.
use Rattle.std.proofs.Common.{◌≡◌, ◌⊎◌, inl, inr, ℕ, zero, suc, true, List, [], ◌∷◌, ◌++◌, map, set, Some, refl, sym, ap, ◌∙◌, subst, append-nil}
use Rattle.std.specs.Prelude.{slice_get}
use Rattle.table_model.specs.History.{History}
use Rattle.turn_table.specs.Turn.{with_entry}
use Rattle.turn_table.specs.View.{Reaches, seeing}
use Rattle.conn_requests.specs.declared.answers.Answer.{Answer}
use Rattle.conn_requests.specs.Ends.{lost_answer}
use Rattle.conn_requests.specs.Decided.{Answered}
use Rattle.open_tables.specs.Tables.{TableView}
use Rattle.open_tables.specs.Plans.{Plan, Fixed, At, TurnFor, Gets, GetsAt, Loses, LosesAt, caller_in}
use Rattle.conn_service.specs.Served.{Planning, plan_of, Served}
use Rattle.conn_service.specs.Computed.{AreAlone, numbers_of, histories_of, ComputesOne, Computes}

-- ---- one element of a list put in another's place

at_map : {X Y : Type 0} (f : X → Y) (xs : List X) (i : ℕ) (x : X) → slice_get xs i ≡ Some x → slice_get (map f xs) i ≡ Some (f x)
at_map f [] i x found = absurd cc
at_map f (y ∷ xs) zero x found = let same : y ≡ x = cc in ap (λ z. Some (f z)) same
at_map f (y ∷ xs) (suc i) x found = at_map f xs i x found

map_set : {X Y : Type 0} (f : X → Y) (xs : List X) (i : ℕ) (x : X) → map f (set xs i x) ≡ set (map f xs) i (f x)
map_set f [] i x = refl
map_set f (y ∷ xs) zero x = refl
map_set f (y ∷ xs) (suc i) x = ap (λ rest. f y ∷ rest) (map_set f xs i x)

set_same : {X : Type 0} (xs : List X) (i : ℕ) (x : X) → slice_get xs i ≡ Some x → set xs i x ≡ xs
set_same [] i x found = refl
set_same (y ∷ xs) zero x found = let same : y ≡ x = cc in ap (λ z. z ∷ xs) (sym same)
set_same (y ∷ xs) (suc i) x found = ap (λ rest. y ∷ rest) (set_same xs i x found)

-- ---- passes

alone_at : (passes : List TableView) (place : ℕ) (view : TableView) → AreAlone passes → slice_get passes place ≡ Some view → view.alone ≡ true
alone_at [] place view alone found = absurd cc
alone_at (pass ∷ passes) zero view alone found = let same : pass ≡ view = cc in sym (ap (λ v. v.alone) same) ∙ alone.0
alone_at (pass ∷ passes) (suc place) view alone found = alone_at passes place view alone.1 found

alone_set : (passes : List TableView) (place : ℕ) (view : TableView) → AreAlone passes → view.alone ≡ true → AreAlone (set passes place view)
alone_set [] place view alone is = tt
alone_set (pass ∷ passes) zero view alone is = (is, alone.1)
alone_set (pass ∷ passes) (suc place) view alone is = (alone.0, alone_set passes place view alone.1 is)

-- an alone pass reaches what it has seen
here : (view : TableView) (point : History) → view.alone ≡ true → Reaches caller_in view point → point ≡ view.seen
here view point alone reaches = reaches.is ∙ ap (λ more. view.seen ++ more) (reaches.none_if_alone alone) ∙ append-nil view.seen

-- ---- a pass has seen another history

pub record IsSeen (passes after : List TableView) (place : ℕ) (history : History) : Type 0 where
  pub histories : histories_of after ≡ set (histories_of passes) place history
  pub numbers : numbers_of after ≡ numbers_of passes
  pub alone : AreAlone after

module _ (passes after : List TableView) (place : ℕ) (view : TableView) (alone : AreAlone passes) (found : slice_get passes place ≡ Some view) where
  seen : (history : History) → after ≡ set passes place (seeing view history) → IsSeen passes after place history
  seen history behind = record {
    histories = ap (λ ps. histories_of ps) behind ∙ map_set (λ (v : TableView). v.seen) passes place (seeing view history);
    numbers = ap (λ ps. numbers_of ps) behind ∙ map_set (λ (v : TableView). v.number) passes place (seeing view history)
        ∙ set_same (numbers_of passes) place view.number (at_map (λ (v : TableView). v.number) passes place view found);
    alone = subst AreAlone (sym behind) (alone_set passes place (seeing view history) alone (alone_at passes place view alone found));
  }

  -- what stood before stands
  unseen : after ≡ set passes place (seeing view view.seen) → histories_of after ≡ histories_of passes
  unseen behind = (seen view.seen behind).histories ∙ set_same (histories_of passes) place view.seen (at_map (λ (v : TableView). v.seen) passes place view found)

-- ---- one answer

-- computed, and the passes are as they were but for what they have seen
pub record IsStep (plan : Plan Answer) (passes after : List TableView) (x : Answered) : Type 0 where
  pub computes : ComputesOne (numbers_of passes) (histories_of passes) plan x (histories_of after)
  pub numbers : numbers_of after ≡ numbers_of passes
  pub alone : AreAlone after

module _ (passes after : List TableView) (place : ℕ) (turn : TurnFor Answer) (x : Answered) (alone : AreAlone passes) where
  gets_step : GetsAt passes place turn x.now x.answer after → IsStep (At place turn) passes after x
  gets_step gets =
      let view = gets.view in
      let point : gets.point ≡ view.seen = here view gets.point (alone_at passes place view alone gets.found) gets.reaches in
      let entered : History → History = λ p. with_entry p (turn p view.number x.now).entry in
      let behind = gets.behind ∙ ap (λ p. set passes place (seeing view (entered p))) point in
      let is = seen passes after place view alone gets.found (entered view.seen) behind in
      record {
        computes = inl (record {
          number = view.number;
          history = view.seen;
          is_number = at_map (λ (v : TableView). v.number) passes place view gets.found;
          is_history = at_map (λ (v : TableView). v.seen) passes place view gets.found;
          answered = inl (gets.is ∙ ap (λ p. (turn p view.number x.now).answer) point, is.histories);
        });
        numbers = is.numbers;
        alone = is.alone;
      }

  lost_by : x.answer ≡ lost_answer → (loses : LosesAt passes place turn x.now after)
      → (after ≡ set passes place (seeing loses.view loses.point)) ⊎ (after ≡ set passes place (seeing loses.view (with_entry loses.point (turn loses.point loses.view.number x.now).entry)))
      → IsStep (At place turn) passes after x
  lost_by lost loses (inl none) =
      let view = loses.view in
      let point : loses.point ≡ view.seen = here view loses.point (alone_at passes place view alone loses.found) loses.reaches in
      let behind = none ∙ ap (λ p. set passes place (seeing view p)) point in
      let is = seen passes after place view alone loses.found view.seen behind in
      record {
        computes = inr (lost, unseen passes after place view alone loses.found behind);
        numbers = is.numbers;
        alone = is.alone;
      }
  lost_by lost loses (inr all) =
      let view = loses.view in
      let point : loses.point ≡ view.seen = here view loses.point (alone_at passes place view alone loses.found) loses.reaches in
      let entered : History → History = λ p. with_entry p (turn p view.number x.now).entry in
      let behind = all ∙ ap (λ p. set passes place (seeing view (entered p))) point in
      let is = seen passes after place view alone loses.found (entered view.seen) behind in
      record {
        computes = inl (record {
          number = view.number;
          history = view.seen;
          is_number = at_map (λ (v : TableView). v.number) passes place view loses.found;
          is_history = at_map (λ (v : TableView). v.seen) passes place view loses.found;
          answered = inr (lost, inr is.histories);
        });
        numbers = is.numbers;
        alone = is.alone;
      }

still : (plan : Plan Answer) (passes after : List TableView) (x : Answered) → AreAlone passes → after ≡ passes
    → ComputesOne (numbers_of passes) (histories_of passes) plan x (histories_of passes) → IsStep plan passes after x
still plan passes after x alone same computes = let P : List TableView → Type 0 = λ ps. IsStep plan passes ps x in
    subst P (sym same) (record { computes = computes; numbers = refl; alone = alone })

step_by : (plan : Plan Answer) (passes after : List TableView) (x : Answered) → AreAlone passes
    → Gets passes plan x.now x.answer after ⊎ ((x.answer ≡ lost_answer) × Loses passes plan x.now after) → IsStep plan passes after x
step_by (Fixed due) passes after x alone (inl gets) = still (Fixed due) passes after x alone gets.1 (inl gets.0, refl)
step_by (Fixed due) passes after x alone (inr lost) = still (Fixed due) passes after x alone lost.1 (inr lost.0, refl)
step_by (At place turn) passes after x alone (inl gets) = gets_step passes after place turn x alone gets
step_by (At place turn) passes after x alone (inr (lost, inl none)) = still (At place turn) passes after x alone none (inr (lost, refl))
step_by (At place turn) passes after x alone (inr (lost, inr loses)) = lost_by passes after place turn x alone lost loses loses.behind

-- ---- all of them

pub served-computed : (plan : Planning) (passes after : List TableView) (answers : List Answered) → AreAlone passes → Served plan passes answers after
    → Computes plan (numbers_of passes) (histories_of passes) answers (histories_of after) × (numbers_of after ≡ numbers_of passes) × AreAlone after
served-computed plan passes after [] alone served =
    (ap (λ ps. histories_of ps) served, ap (λ ps. numbers_of ps) served, subst AreAlone (sym served) alone)
served-computed plan passes after (x ∷ xs) alone (between, one, others) =
    let first = step_by (plan_of plan x) passes between x alone one in
    let then = served-computed plan between after xs first.alone others in
    let P : List ℕ → Type 0 = λ numbers. Computes plan numbers (histories_of between) xs (histories_of after) in
    ((histories_of between, first.computes, subst P first.numbers then.0), then.1 ∙ first.numbers, then.2)
