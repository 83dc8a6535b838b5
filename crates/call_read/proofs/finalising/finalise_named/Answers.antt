use mir.Syntax.{w64}
use Rattle.std.proofs.Common.{ℤ, sym, subst, ◌∙◌, IfOk, OnErr}
use Rattle.std.proofs.lemmas.Int.{to_z-of_z}
use Rattle.table_model.specs.declared.reasons.Why.TheVariants as why
use Rattle.conn_requests.specs.declared.answers.Answer.{Answer}
use Rattle.open_tables.specs.Tables.{specs_of}
use Rattle.open_tables.specs.Plans.{Plan, At, Gets, Loses}
use Rattle.call_plans.specs.Endings.{refused_for}
use Rattle.call_plans.specs.Finalising.{finalise_turn}
use Rattle.call_names.proofs.TableLemmas.{on_table-there}
use Rattle.call_read.proofs.finalising.finalise_named.Goals as goal

pub returns-in-Ok-Some-clause-gets : goal.returns-in-Ok-Some-clause-gets
returns-in-Ok-Some-clause-gets g c =
    let there = on_table-there (specs_of c.args.tables.now) (refused_for why.NoTable) c.args.name.now.table (λ place spec. At place (finalise_turn c.args.name.now.stream spec.schema)) _ _ (sym c.in-Ok-Some.field-0-is ∙ c.in-Ok-Some.ensures.place) c.spec-spec.ensures in
    let P : Plan Answer → ℤ → Type 0 = λ plan now. IfOk c.finalise_at.result.1 (λ answer. Gets c.args.passes plan now answer c.finalise_at.result.0) in
    let turn : Plan Answer = At c.in-Ok-Some.place (finalise_turn c.args.name.now.stream c.spec-spec.result.now.schema) in
    subst (λ plan. P plan c.args.now) (sym there) (subst (P turn) (to_z-of_z w64 c.args.now c.ranges.now) (c.finalise_at.ensures.gets _ c.spec-spec.ensures))

pub returns-in-Ok-Some-clause-loses : goal.returns-in-Ok-Some-clause-loses
returns-in-Ok-Some-clause-loses g c =
    let there = on_table-there (specs_of c.args.tables.now) (refused_for why.NoTable) c.args.name.now.table (λ place spec. At place (finalise_turn c.args.name.now.stream spec.schema)) _ _ (sym c.in-Ok-Some.field-0-is ∙ c.in-Ok-Some.ensures.place) c.spec-spec.ensures in
    let P : Plan Answer → ℤ → Type 0 = λ plan now. OnErr c.finalise_at.result.1 (Loses c.args.passes plan now c.finalise_at.result.0) in
    let turn : Plan Answer = At c.in-Ok-Some.place (finalise_turn c.args.name.now.stream c.spec-spec.result.now.schema) in
    subst (λ plan. P plan c.args.now) (sym there) (subst (P turn) (to_z-of_z w64 c.args.now c.ranges.now) (c.finalise_at.ensures.loses _ c.spec-spec.ensures))
