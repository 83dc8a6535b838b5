use mir.Syntax.{w64}
use Rattle.std.proofs.Common.{ℤ, sym, subst, ◌∙◌, IfOk}
use Rattle.std.proofs.lemmas.Int.{to_z-of_z}
use Rattle.table_model.specs.declared.reasons.Why.TheVariants as why
use Rattle.table_model.specs.declared.streams.StreamRef.{StreamRef}
use Rattle.conn_requests.specs.declared.answers.Answer.{Answer}
use Rattle.open_tables.specs.Tables.{specs_of}
use Rattle.open_tables.specs.Plans.{Plan, At, Gets}
use Rattle.call_plans.specs.Names.{ref_of}
use Rattle.call_plans.specs.Appending.{append_turn, refused_to}
use Rattle.call_names.proofs.TableLemmas.{on_table-there}
use Rattle.append_calls.proofs.calls.AppendCall.append_named.Goals as goal

pub returns-in-Ok-Some-clause-gets : goal.returns-in-Ok-Some-clause-gets
returns-in-Ok-Some-clause-gets g c =
    let there = on_table-there (specs_of c.args.tables.now) (refused_to c.args.request.now why.NoTable) c.args.name.now.table
    (λ place spec. At place (append_turn (ref_of c.args.name.now.stream) c.args.self.now c.args.request.now spec.schema)) _ _ (sym c.in-Ok-Some.field-0-is ∙ c.in-Ok-Some.ensures.place) c.spec.ensures in
    let P : Plan Answer → ℤ → Type 0 = λ plan now. IfOk c.append_at.result.1 (λ answer. Gets c.args.passes plan now answer c.append_at.result.0) in
    let turn : StreamRef → Plan Answer = λ stream. At c.in-Ok-Some.place (append_turn stream c.args.self.now c.args.request.now c.spec.result.now.schema) in
    subst (λ plan. P plan c.args.now) (sym there) (
    subst (λ stream. P (turn stream) c.args.now) c.ref_of.ensures (
    subst (P (turn c.ref_of.result)) (to_z-of_z w64 c.args.now c.ranges.now) c.append_at.ensures.gets))
