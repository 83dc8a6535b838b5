-- The table is asked, as the plan has it.
use mir.Syntax.{w64}
use Rattle.std.proofs.Common.{ℕ, ℤ, List, sym, subst, IfOk}
use Rattle.std.proofs.lemmas.Int.{to_z-of_z}
use Rattle.table_model.specs.declared.commands.Command.TheVariants as command
use Rattle.conn_requests.specs.declared.answers.Answer.{Answer}
use Rattle.open_tables.specs.Plans.{Plan, At, Gets, on_command}
use Rattle.call_plans.specs.Committed.{told_committed}
use Rattle.call_read.specs.Deciding.{Decides}
use Rattle.call_read.proofs.committing.commit_request.Goals as goal

pub returns-in-Ok-Asks-clause-gets : goal.returns-in-Ok-Asks-clause-gets
returns-in-Ok-Asks-clause-gets g c =
    let asked = subst (Decides c.args.tables.now c.args.request.now) c.in-Ok-Asks.field-0-is c.in-Ok-Asks.ensures in
    let P : Plan Answer → ℤ → Type 0 = λ plan now. IfOk c.commit_at.result.1 (λ answer. Gets c.args.passes plan now answer c.commit_at.result.0) in
    let turn : List (List ℕ) → Plan Answer = λ texts. At c.in-Ok-Asks.place (on_command asked.spec.schema (command.Commit c.in-Ok-Asks.streams) (told_committed texts)) in
    let told = subst (P (turn c.texts-texts.result.now)) (to_z-of_z w64 c.args.now c.ranges.now) (c.commit_at.ensures.gets asked.spec asked.found) in
    subst (λ plan. P plan c.args.now) (sym asked.plan) (subst (λ texts. P (turn texts) c.args.now) c.texts-texts.ensures told)
