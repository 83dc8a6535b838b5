-- A read is one step more, with the bytes behind those that were read.
use Rattle.std.proofs.Common.{◌≡◌, ◌≤◌, ◌∙◌, ◌+◌, [], ◌∷◌, ◌++◌, ap, sym, length, take, drop, subst, arith, length-drop}
use Rattle.std.proofs.lemmas.Grind.{common_steps}
use Rattle.links.specs.Memory.{Passed, read_by, written_by}
use Rattle.links.specs.declared.traffic.Step.TheVariants as step
use Rattle.links.proofs.TrafficLemmas.{read_by-append, written_by-append, log_of-read}
use Rattle.links.proofs.traffic.Traffic.read.Goals as goal

pub invariant_of-self-2 : goal.invariant_of-self-2
invariant_of-self-2 c =
    let t = c.self.inside in
    let steps : c.push_reserved.new.self.items ≡ t.steps.items ++ step.Read c.args.n ∷ [] = c.push_reserved.ensures.items ∙ ap (λ xs. xs ++ step.Read c.args.n ∷ []) c.reserve.ensures.items in
    let read : read_by c.push_reserved.new.self.items ≡ t.at + c.args.n = ap read_by steps ∙ read_by-append t.steps.items (step.Read c.args.n ∷ []) ∙ omega (arith, c.self.invariant.1) in
    let wrote : written_by c.push_reserved.new.self.items ≡ written_by t.steps.items = ap written_by steps ∙ written_by-append t.steps.items (step.Read c.args.n ∷ []) ∙ omega arith in
    let there : c.args.n ≤ length (drop t.at t.input.items) = subst (λ (p : Passed). c.args.n ≤ length p.left) (sym c.self.view_is) c.requires.there in
    (omega (arith, there, length-drop t.at t.input.items), read, wrote ∙ c.self.invariant.2)

pub returns-clause-log : goal.returns-clause-log
returns-clause-log c =
    let t = c.self.inside in
    let steps : c.push_reserved.new.self.items ≡ t.steps.items ++ step.Read c.args.n ∷ [] = c.push_reserved.ensures.items ∙ ap (λ xs. xs ++ step.Read c.args.n ∷ []) c.reserve.ensures.items in
    let within : t.at ≤ length t.input.items = omega (arith, c.self.invariant.0) in
    let wrote : written_by t.steps.items ≡ length t.written.items = omega (arith, c.self.invariant.2) in
    let given : take c.args.n (drop t.at t.input.items) ≡ take c.args.n c.copy_to_front.new.into = grind (arith, common_steps) in
    let log = log_of-read t.steps.items t.at c.args.n t.input.items t.written.items within c.self.invariant.1 wrote in
    rw (← c.self.view_is) (rw (steps, ← given) log)
