-- What serving leaves of the passes.
use Rattle.std.proofs.Common.{◌≡◌, ◌⊎◌, inl, inr, ℕ, zero, suc, List, [], ◌∷◌, ◌++◌, map, set, Option, Some, None, refl, sym, ap, ◌∙◌, subst, append-nil, append_assoc}
use Rattle.std.specs.Prelude.{slice_get}
use Rattle.table_model.specs.History.{History}
use Rattle.table_model.specs.declared.entries.Entry.{Entry}
use Rattle.turn_table.specs.Turn.{with_entry}
use Rattle.turn_table.specs.View.{Reaches, seeing}
use Rattle.h2_record.specs.Written.{IsFront}
use Rattle.conn_requests.specs.declared.answers.Answer.{Answer}
use Rattle.conn_requests.specs.Ends.{lost_answer}
use Rattle.conn_requests.specs.Decided.{Answered}
use Rattle.open_tables.specs.Tables.{TableView, OpenTable, first_passes}
use Rattle.open_tables.specs.Plans.{Plan, Fixed, At, Gets, Loses, caller_in}
use Rattle.conn_service.specs.Served.{Planning, plan_of, Served, PassGoesOn, EachGoesOn}
use Rattle.conn_service.specs.Computed.{AreAlone, numbers_of, histories_of}

-- ---- the passes to new tables

pub first-alone : (tables : List OpenTable) → AreAlone (first_passes tables) × (numbers_of (first_passes tables) ≡ map (λ table. 0) tables) × (histories_of (first_passes tables) ≡ map (λ table. []) tables)
first-alone [] = (tt, refl, refl)
first-alone (table ∷ tables) = let others = first-alone tables in ((refl, others.0), ap (λ ns. 0 ∷ ns) others.1, ap (λ hs. [] ∷ hs) others.2)

-- ---- fronts

front-then : {X : Type 0} (xs ys zs : List X) → IsFront xs ys → IsFront ys zs → IsFront xs zs
front-then xs ys zs (rest, is) (more, then) = (rest ++ more, sym (append_assoc xs rest more) ∙ ap (λ l. l ++ more) is ∙ then)

front-entry : (history : History) (entry : Option Entry) → IsFront history (with_entry history entry)
front-entry history None = ([], append-nil history)
front-entry history (Some entry) = (entry ∷ [], refl)

-- ---- one pass, and all

stays : (view : TableView) → PassGoesOn view view
stays view = record { number = refl; bound = refl; alone = refl; fixed = refl; seen = ([], append-nil view.seen) }

each-stays : (passes : List TableView) → EachGoesOn passes passes
each-stays [] = tt
each-stays (view ∷ passes) = (stays view, each-stays passes)

then-goes : (a b c : TableView) → PassGoesOn a b → PassGoesOn b c → PassGoesOn a c
then-goes a b c first then = record {
  number = then.number ∙ first.number;
  bound = then.bound ∙ first.bound;
  alone = then.alone ∙ first.alone;
  fixed = then.fixed ∙ first.fixed;
  seen = front-then a.seen b.seen c.seen first.seen then.seen;
}

each-then : (olds betweens news : List TableView) → EachGoesOn olds betweens → EachGoesOn betweens news → EachGoesOn olds news
each-then [] [] news first then = then
each-then [] (b ∷ betweens) news first then = absurd first
each-then (a ∷ olds) [] news first then = absurd first
each-then (a ∷ olds) (b ∷ betweens) [] first then = absurd then
each-then (a ∷ olds) (b ∷ betweens) (c ∷ news) first then = (then-goes a b c first.0 then.0, each-then olds betweens news first.1 then.1)

each-set : (passes : List TableView) (place : ℕ) (view new : TableView) → slice_get passes place ≡ Some view → PassGoesOn view new → EachGoesOn passes (set passes place new)
each-set [] place view new found goes = tt
each-set (pass ∷ passes) zero view new found goes =
    let same : view ≡ pass = cc in
    let P : TableView → Type 0 = λ v. PassGoesOn v new in (subst P same goes, each-stays passes)
each-set (pass ∷ passes) (suc place) view new found goes = (stays pass, each-set passes place view new found goes)

-- a pass has seen a history that it reaches, with an entry or none
sees-more : (view : TableView) (point : History) (entry : Option Entry) → Reaches caller_in view point → PassGoesOn view (seeing view (with_entry point entry))
sees-more view point entry reaches =
    record { number = refl; bound = refl; alone = refl; fixed = refl; seen = front-then view.seen point (with_entry point entry) (reaches.more, sym reaches.is) (front-entry point entry) }

module _ (passes after : List TableView) (place : ℕ) (view : TableView) (point : History) (entry : Option Entry) (found : slice_get passes place ≡ Some view) (reaches : Reaches caller_in view point) where
  each-sees : after ≡ set passes place (seeing view (with_entry point entry)) → EachGoesOn passes after
  each-sees behind = subst (EachGoesOn passes) (sym behind) (each-set passes place view (seeing view (with_entry point entry)) found (sees-more view point entry reaches))

same-stays : (passes after : List TableView) → after ≡ passes → EachGoesOn passes after
same-stays passes after same = subst (EachGoesOn passes) (sym same) (each-stays passes)

one-goes : (plan : Plan Answer) (passes after : List TableView) (x : Answered) → Gets passes plan x.now x.answer after ⊎ ((x.answer ≡ lost_answer) × Loses passes plan x.now after) → EachGoesOn passes after
one-goes (Fixed due) passes after x (inl gets) = same-stays passes after gets.1
one-goes (Fixed due) passes after x (inr lost) = same-stays passes after lost.1
one-goes (At place turn) passes after x (inl gets) = each-sees passes after place gets.view gets.point (turn gets.point gets.view.number x.now).entry gets.found gets.reaches gets.behind
one-goes (At place turn) passes after x (inr (lost, inl none)) = same-stays passes after none
one-goes (At place turn) passes after x (inr (lost, inr loses)) = by_entry loses.behind
  where
    by_entry : (after ≡ set passes place (seeing loses.view loses.point)) ⊎ (after ≡ set passes place (seeing loses.view (with_entry loses.point (turn loses.point loses.view.number x.now).entry))) → EachGoesOn passes after
    by_entry (inl none) = each-sees passes after place loses.view loses.point None loses.found loses.reaches none
    by_entry (inr all) = each-sees passes after place loses.view loses.point (turn loses.point loses.view.number x.now).entry loses.found loses.reaches all

pub served-goes-on : (plan : Planning) (passes after : List TableView) (answers : List Answered) → Served plan passes answers after → EachGoesOn passes after
served-goes-on plan passes after [] served = same-stays passes after served
served-goes-on plan passes after (x ∷ xs) (between, one, others) =
    each-then passes between after (one-goes (plan_of plan x) passes between x one) (served-goes-on plan between after xs others)
