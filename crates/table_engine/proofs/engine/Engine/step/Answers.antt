-- The entry of the answer may be added.
use mir.Syntax.{w64}
use mir.Val.{to_z, of_z}
use Rattle.std.proofs.Common.{ap, ◌∙◌}
use Rattle.std.proofs.lemmas.Int.{to_z-of_z}
use Rattle.table_model.specs.Look.{look_of}
use Rattle.table_model.specs.Answer.{answer_by}
use Rattle.table_engine.proofs.StepLemmas.{can_take}
use Rattle.table_engine.proofs.engine.Engine.step.Goals as goal

pub take-requires : goal.take-requires
take-requires c =
    let table = c.args.self.now in
    let now = to_z w64 (of_z w64 c.args.now) in
    can_take table.columns table.entries c.args.caller c.args.command now c.in_ok-answer.answer c.facts-facts.ensures.within c.requires.taken
    (rw (to_z-of_z w64 c.args.now c.ranges.now) c.requires.in_time) (
    c.in_ok-answer.ensures ∙ ap (λ facts. answer_by facts (look_of table.entries) c.args.command now) c.facts-facts.ensures.value)
