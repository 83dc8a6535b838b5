-- A wait is one step more, which moves no byte.
use Rattle.std.proofs.Common.{◌≡◌, ◌≤◌, ◌∙◌, [], ◌∷◌, ◌++◌, ap, sym, length, take, arith}
use Rattle.std.proofs.lemmas.List.{length-take-le}
use Rattle.links.specs.Memory.{read_by, written_by}
use Rattle.links.specs.declared.traffic.Step.TheVariants as step
use Rattle.links.proofs.TrafficLemmas.{read_by-append, written_by-append, log_of-waited}
use Rattle.links.proofs.traffic.Traffic.wait.Goals as goal

pub invariant_of-self-2 : goal.invariant_of-self-2
invariant_of-self-2 c =
    let t = c.self.inside in
    let steps : c.push_reserved.new.self.items ≡ t.steps.items ++ step.Waited ∷ [] = c.push_reserved.ensures.items ∙ ap (λ xs. xs ++ step.Waited ∷ []) c.reserve.ensures.items in
    let read : read_by c.push_reserved.new.self.items ≡ t.at = ap read_by steps ∙ read_by-append t.steps.items (step.Waited ∷ []) ∙ omega (arith, c.self.invariant.1) in
    let wrote : written_by c.push_reserved.new.self.items ≡ written_by t.steps.items = ap written_by steps ∙ written_by-append t.steps.items (step.Waited ∷ []) ∙ omega arith in
    (c.self.invariant.0, read, wrote ∙ c.self.invariant.2)

pub returns-clause-log : goal.returns-clause-log
returns-clause-log c =
    let t = c.self.inside in
    let steps : c.push_reserved.new.self.items ≡ t.steps.items ++ step.Waited ∷ [] = c.push_reserved.ensures.items ∙ ap (λ xs. xs ++ step.Waited ∷ []) c.reserve.ensures.items in
    let within : t.at ≤ length t.input.items = omega (arith, c.self.invariant.0) in
    let read : read_by t.steps.items ≡ length (take t.at t.input.items) = c.self.invariant.1 ∙ sym (length-take-le t.at t.input.items within) in
    let wrote : written_by t.steps.items ≡ length t.written.items = omega (arith, c.self.invariant.2) in
    rw (← c.self.view_is) (rw steps (log_of-waited t.steps.items (take t.at t.input.items) t.written.items read wrote))
