use mir.Syntax.{w64}
use Rattle.std.proofs.Common.{ℕ, ℤ, List, sym, subst, ◌∙◌, IfOk}
use Rattle.std.proofs.lemmas.Int.{to_z-of_z}
use Rattle.table_model.specs.declared.reasons.Why.TheVariants as why
use Rattle.conn_requests.specs.declared.answers.Answer.{Answer}
use Rattle.open_tables.specs.Tables.{specs_of}
use Rattle.open_tables.specs.Plans.{Plan, At, Gets}
use Rattle.call_plans.specs.Endings.{refused_for}
use Rattle.call_plans.specs.ReadNames.{on_read}
use Rattle.call_plans.specs.Splitting.{split_turn}
use Rattle.call_names.proofs.NodeLemmas.{on_read-none, on_read-there}
use Rattle.call_read.proofs.ReadLemmas.{gets-fixed}
use Rattle.call_read.proofs.splitting.split_named.Goals as goal

pub returns-in-Some-clause-gets : goal.returns-in-Some-clause-gets
returns-in-Some-clause-gets g c =
    let there = on_read-there c.args.tables.now (refused_for why.NoRead) (λ node spec. At node.table (split_turn c.args.name.now.project node spec.schema)) c.args.name.now c.in-Some.node c.spec-spec.result.now (sym c.in-Some.is ∙ c.node_of.ensures.node) c.spec-spec.ensures in
    let P : Plan Answer → ℤ → Type 0 = λ plan now. IfOk c.split_at.result.1 (λ answer. Gets c.args.passes plan now answer c.split_at.result.0) in
    let turn : List ℕ → Plan Answer = λ project. At c.in-Some.node.table (split_turn project c.in-Some.node c.spec-spec.result.now.schema) in
    let told = subst (P (turn c.text.result.now)) (to_z-of_z w64 c.args.now c.ranges.now) (c.split_at.ensures.gets _ c.spec-spec.ensures) in
    subst (λ plan. P plan c.args.now) (sym there) (subst (λ project. P (turn project) c.args.now) c.text.ensures told)

pub returns-in-None-clause-gets : goal.returns-in-None-clause-gets
returns-in-None-clause-gets g c =
    let none = on_read-none c.args.tables.now (refused_for why.NoRead) (λ node spec. At node.table (split_turn c.args.name.now.project node spec.schema)) c.args.name.now (sym c.in-None.is ∙ c.node_of.ensures.node) in
    gets-fixed c.args.passes c.args.now (on_read (specs_of c.args.tables.now) (refused_for why.NoRead) c.args.name.now (λ node spec. At node.table (split_turn c.args.name.now.project node spec.schema))) (refused_for why.NoRead) c.refused_for.result none c.refused_for.ensures
