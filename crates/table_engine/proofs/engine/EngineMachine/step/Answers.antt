-- A step of the table is one of the machine.
use mir.Syntax.{w64}
use mir.Val.{to_z, of_z}
use Rattle.std.proofs.Common.{◌≡◌, ℤ, subst, rules}
use Rattle.turn_table.specs.Turn.{Steps}
use Rattle.table_engine.specs.Turns.{Allows}
use Rattle.table_engine.proofs.StepLemmas.{columns_stay, steps}
use Rattle.table_engine.proofs.engine.EngineMachine.step.Goals as goal

pub returns-clause-fixed : goal.returns-clause-fixed
returns-clause-fixed c = columns_stay c.args.self.now c.step.new.self c.args.caller c.args.command (to_z w64 (of_z w64 c.args.now)) c.step.result c.step.ensures

pub returns-clause-steps : goal.returns-clause-steps
returns-clause-steps c =
    let same : to_z w64 (of_z w64 c.args.now) ≡ c.args.now = search rules in
    let P : ℤ → Type 0 = λ now. Steps (λ entry. entry.caller) (Allows c.args.self.now.columns) c.args.self.now.entries c.step.new.self.entries c.args.caller c.args.command now c.step.result in
    subst P same (steps c.args.self.now c.step.new.self c.args.caller c.args.command (to_z w64 (of_z w64 c.args.now)) c.step.result c.step.ensures)
