use mir.Syntax.{w64}
use Rattle.std.proofs.Common.{rules, ℤ, sym, subst, ◌∙◌, IfOk, OnErr}
use Rattle.std.proofs.lemmas.Int.{to_z-of_z}
use Rattle.table_model.specs.declared.reasons.Why.TheVariants as why
use Rattle.conn_requests.specs.declared.answers.Answer.{Answer}
use Rattle.open_tables.specs.Tables.{specs_of}
use Rattle.open_tables.specs.Plans.{Plan, At, Gets, Loses}
use Rattle.call_plans.specs.Endings.{refused_for}
use Rattle.call_plans.specs.ReadNames.{on_read}
use Rattle.call_plans.specs.Reading.{read_turn}
use Rattle.call_names.proofs.NodeLemmas.{on_read-none, on_read-there}
use Rattle.call_read.specs.Items.{told}
use Rattle.call_read.proofs.ReadLemmas.{tells-fixed}
use Rattle.call_read.proofs.bodies.rows_named.Goals as goal

pub returns-in-Some-clause-gets : goal.returns-in-Some-clause-gets
returns-in-Some-clause-gets g c =
    let there = on_read-there c.args.tables.now (refused_for why.NoRead) (λ node spec. At node.table (read_turn node c.args.request.now.offset spec.schema)) c.args.name.now c.in-Some.node c.spec-spec.result.now (sym c.in-Some.is ∙ c.node_of.ensures.node) c.spec-spec.ensures in
    let P : Plan Answer → ℤ → Type 0 = λ plan now. IfOk c.rows_at.result.1 (λ rows. Gets c.args.passes plan now (told rows) c.rows_at.result.0) in
    let turn : ℤ → Plan Answer = λ offset. At c.in-Some.node.table (read_turn c.in-Some.node offset c.spec-spec.result.now.schema) in
    let got = subst (P (turn _)) (to_z-of_z w64 c.args.now c.ranges.now) (c.rows_at.ensures.gets _ c.spec-spec.ensures) in
    subst (λ plan. P plan c.args.now) (sym there) (subst (λ offset. P (turn offset) c.args.now) (search rules) got)

pub returns-in-Some-clause-loses : goal.returns-in-Some-clause-loses
returns-in-Some-clause-loses g c =
    let there = on_read-there c.args.tables.now (refused_for why.NoRead) (λ node spec. At node.table (read_turn node c.args.request.now.offset spec.schema)) c.args.name.now c.in-Some.node c.spec-spec.result.now (sym c.in-Some.is ∙ c.node_of.ensures.node) c.spec-spec.ensures in
    let P : Plan Answer → ℤ → Type 0 = λ plan now. OnErr c.rows_at.result.1 (Loses c.args.passes plan now c.rows_at.result.0) in
    let turn : ℤ → Plan Answer = λ offset. At c.in-Some.node.table (read_turn c.in-Some.node offset c.spec-spec.result.now.schema) in
    let got = subst (P (turn _)) (to_z-of_z w64 c.args.now c.ranges.now) (c.rows_at.ensures.loses _ c.spec-spec.ensures) in
    subst (λ plan. P plan c.args.now) (sym there) (subst (λ offset. P (turn offset) c.args.now) (search rules) got)

pub returns-in-None-clause-gets : goal.returns-in-None-clause-gets
returns-in-None-clause-gets g c =
    let none = on_read-none c.args.tables.now (refused_for why.NoRead) (λ node spec. At node.table (read_turn node c.args.request.now.offset spec.schema)) c.args.name.now (sym c.in-None.is ∙ c.node_of.ensures.node) in
    tells-fixed told c.args.passes c.args.now (on_read (specs_of c.args.tables.now) (refused_for why.NoRead) c.args.name.now (λ node spec. At node.table (read_turn node c.args.request.now.offset spec.schema))) (refused_for why.NoRead) c.ended_for.result none c.ended_for.ensures
