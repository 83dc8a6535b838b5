-- A write is one step more, with its bytes behind those that were written.
use Rattle.std.proofs.Common.{◌≡◌, ◌≤◌, ◌∙◌, ◌+◌, [], ◌∷◌, ◌++◌, ap, sym, length, take, arith, length-append}
use Rattle.std.proofs.lemmas.List.{length-take-le}
use Rattle.std.proofs.lemmas.Grind.{common_steps}
use Rattle.links.specs.Memory.{read_by, written_by}
use Rattle.links.specs.declared.traffic.Step.TheVariants as step
use Rattle.links.proofs.TrafficLemmas.{read_by-append, written_by-append, log_of-wrote}
use Rattle.links.proofs.traffic.Traffic.write.Goals as goal

pub invariant_of-self-2 : goal.invariant_of-self-2
invariant_of-self-2 c =
    let t = c.self.inside in
    let last = step.Wrote (length c.args.from.now) in
    let steps : c.push_reserved.new.self.items ≡ t.steps.items ++ last ∷ [] = c.push_reserved.ensures.items ∙ ap (λ xs. xs ++ last ∷ []) c.reserve.ensures.items in
    let bytes : c.extend_from_slice.new.self.items ≡ t.written.items ++ c.args.from.now = grind (arith, common_steps) in
    let read : read_by c.push_reserved.new.self.items ≡ t.at = ap read_by steps ∙ read_by-append t.steps.items (last ∷ []) ∙ omega (arith, c.self.invariant.1) in
    let wrote : written_by c.push_reserved.new.self.items ≡ written_by t.steps.items + length c.args.from.now = ap written_by steps ∙ written_by-append t.steps.items (last ∷ []) ∙ omega arith in
    let many : length c.extend_from_slice.new.self.items ≡ length t.written.items + length c.args.from.now = ap length bytes ∙ length-append t.written.items c.args.from.now in
    (c.self.invariant.0, read, omega (arith, c.self.invariant.2))

pub returns-clause-log : goal.returns-clause-log
returns-clause-log c =
    let t = c.self.inside in
    let last = step.Wrote (length c.args.from.now) in
    let steps : c.push_reserved.new.self.items ≡ t.steps.items ++ last ∷ [] = c.push_reserved.ensures.items ∙ ap (λ xs. xs ++ last ∷ []) c.reserve.ensures.items in
    let bytes : c.extend_from_slice.new.self.items ≡ t.written.items ++ c.args.from.now = grind (arith, common_steps) in
    let within : t.at ≤ length t.input.items = omega (arith, c.self.invariant.0) in
    let read : read_by t.steps.items ≡ length (take t.at t.input.items) = c.self.invariant.1 ∙ sym (length-take-le t.at t.input.items within) in
    let wrote : written_by t.steps.items ≡ length t.written.items = omega (arith, c.self.invariant.2) in
    rw (← c.self.view_is) (rw (steps, bytes) (log_of-wrote t.steps.items (take t.at t.input.items) t.written.items c.args.from.now read wrote))
