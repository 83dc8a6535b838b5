-- The table is asked, as the plan has it.
use mir.Syntax.{w32, w64}
use Rattle.std.proofs.Common.{ℤ, sym, subst, IfOk}
use Rattle.std.proofs.lemmas.Int.{to_z-of_z}
use Rattle.conn_requests.specs.declared.answers.Answer.{Answer}
use Rattle.open_tables.specs.Plans.{Plan, At, Gets}
use Rattle.call_plans.specs.Sessions.{session_turn}
use Rattle.call_read.specs.Choosing.{Wants}
use Rattle.call_read.specs.declared.wanting.Wanting.TheVariants as wanting
use Rattle.call_read.proofs.sessions.session_asked.Goals as goal

pub returns-in-Ok-Asks-clause-gets : goal.returns-in-Ok-Asks-clause-gets
returns-in-Ok-Asks-clause-gets g c =
    let count = to_z-of_z w32 c.args.count c.ranges.count in
    let read = subst (Wants c.args.tables.now c.args.asked.now c.args.parent.now _) c.in-Ok-Asks.field-0-is c.in-Ok-Asks.ensures in
    let asked = subst (λ n. Wants c.args.tables.now c.args.asked.now c.args.parent.now n (wanting.Asks c.in-Ok-Asks.wanted)) count read in
    let P : Plan Answer → ℤ → Type 0 = λ plan now. IfOk c.session_at.result.1 (λ answer. Gets c.args.passes plan now answer c.session_at.result.0) in
    let turn : ℤ → Plan Answer = λ n. At c.in-Ok-Asks.wanted.place (session_turn c.in-Ok-Asks.wanted.project c.args.asked.now c.in-Ok-Asks.wanted.place asked.spec.schema n c.in-Ok-Asks.wanted.fields c.in-Ok-Asks.wanted.pred) in
    let told = subst (P (turn _)) (to_z-of_z w64 c.args.now c.ranges.now) (c.session_at.ensures.gets asked.spec asked.found) in
    subst (λ plan. P plan c.args.now) (sym asked.plan) (subst (λ n. P (turn n) c.args.now) count told)
