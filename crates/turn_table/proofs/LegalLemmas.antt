-- Histories that grow by steps.
use Rattle.std.proofs.Common.{ℕ, ℤ, List, [], ◌∷◌, ◌++◌, None, Some, Option, Ok, Err, append_assoc}
use Rattle.std.proofs.lemmas.List.{append-nil}
use Rattle.turn_table.specs.Turn.{IsAllowed, EachIsAllowed}
use Rattle.turn_table.specs.Laws.{StepsStayLegal, FrontsAreLegal}

module _ {E C R : Type 0} (takes : C → Type 0) (allows : List E → ℕ → C → ℤ → R → Option E → Type 0) where
  front : (before front more : List E) → EachIsAllowed takes allows before (front ++ more) → EachIsAllowed takes allows before front
  front before [] more each = record {}
  front before (entry ∷ rest) more each = (each.0, front (before ++ entry ∷ []) rest more each.1)

  one_more : (before history : List E) (entry : E) → EachIsAllowed takes allows before history
      → IsAllowed takes allows (before ++ history) entry → EachIsAllowed takes allows before (history ++ entry ∷ [])
  one_more before [] entry each allowed = (rw (← append-nil before) allowed, record {})
  one_more before (first ∷ rest) entry each allowed =
      (each.0, one_more (before ++ first ∷ []) rest entry each.1 (rw (append_assoc before (first ∷ []) rest) allowed))

  pub fronts : FrontsAreLegal takes allows
  fronts first more legal = front [] first more legal

  pub steps : (caller_of : E → ℕ) → StepsStayLegal caller_of takes allows
  steps caller_of old new caller command now (Err memory) legal taken in_time stepped = rw stepped legal
  steps caller_of old new caller command now (Ok reply) legal taken in_time (None, allowed, carries, is) = rw is legal
  steps caller_of old new caller command now (Ok reply) legal taken in_time (Some entry, allowed, carries, is) =
      rw is (one_more [] old entry legal (record { caller = caller; command = command; now = now; reply = reply; taken = taken; in_time = in_time; allowed = allowed }))
