-- An order of refusals: the first test that holds is the answer.
use Rattle.std.specs.Prelude.{Bool, List, [], ◌∷◌, Option, None, Some, Result, Ok, Err, if◌then◌else◌}
use Rattle.table_model.specs.declared.reasons.Why.{Why}
use Rattle.table_model.specs.declared.reasons.Refusal.{Refusal}
use Rattle.table_model.specs.Reasons.{refusal_of}

-- a test, and the cause for which a request is refused where it holds
abbrev pub Rule : Type 0
Rule = Bool × Why

-- the cause of the first rule that holds
abbrev pub first_refusal : List Rule → Option Why
first_refusal [] = None
first_refusal (rule ∷ rules) = if rule.0 then Some rule.1 else first_refusal rules

-- what is accepted, unless a rule refuses it
abbrev pub unless : {A : Type 0} → List Rule → A → Result A Refusal
unless [] accepted = Ok accepted
unless (rule ∷ rules) accepted = if rule.0 then Err (refusal_of rule.1) else unless rules accepted
