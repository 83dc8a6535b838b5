-- The command is taken, and its reply tells the session.
use Rattle.std.proofs.Common.{sym, ◌∙◌, subst}
use Rattle.std.specs.Prelude.{pos}
use Rattle.table_model.specs.declared.entries.Entry.{Entry}
use Rattle.table_engine.specs.Turns.{Allows}
use Rattle.turn_table.specs.View.{ActsBy}
use Rattle.drill.specs.Begins.{Begun}
use Rattle.drill.proofs.BeginLemmas.{acted}
use Rattle.drill.proofs.TakenLemmas.{takes_session}
use Rattle.drill.proofs.drills.begin_by.Goals as goal

pub act-pass-requires-clause-taken : goal.act-pass-requires-clause-taken
act-pass-requires-clause-taken g c = takes_session c.args.pass.fixed c.args.command (c.requires.theirs.same ∙ c.requires.drill) c.requires.asked

pub returns-in-Ok-clause-begun : goal.returns-in-Ok-clause-begun
returns-in-Ok-clause-begun g c =
    let acts = subst (λ told. ActsBy (λ (entry : Entry). entry.caller) Allows c.args.pass c.args.command (pos 0) told c.act-pass.result.0) c.in-Ok.is c.act-pass.ensures.acts in
    subst (Begun c.act-pass.result.0.seen) (sym c.number_of.ensures)
    (acted c.args.pass c.act-pass.result.0 c.args.command (pos 0) c.in-Ok.reply (c.requires.theirs.same ∙ c.requires.drill) c.requires.asked acts)
