-- A reply of the table has codes, and is told.
use mir.Syntax.{w64}
use Rattle.std.proofs.lemmas.Int.{to_z-of_z}
use Rattle.table_model.specs.declared.commands.Command.TheVariants as command
use Rattle.open_tables.specs.Tables.{specs_of}
use Rattle.call_plans.specs.Committed.{told_committed}
use Rattle.call_names.proofs.TableLemmas.{spec_there}
use Rattle.call_read.proofs.CommitLemmas.{turn_codes, turn_lost, turn_replies, turn_told}
use Rattle.call_read.proofs.committing.commit_at.Goals as goal

pub told_committed-requires : goal.told_committed-requires
told_committed-requires g c =
    let same = to_z-of_z w64 c.args.now c.ranges.now in
    let there = spec_there c.args.tables.now c.args.place c.requires.place in
    let gets = turn_replies (specs_of c.args.tables.now) c.args.passes c.args.place (command.Commit c.args.streams) _ c.args.now c.act-passes.result.0 c.act-passes.result.1 c.in-Ok.reply
    c.act-passes.ensures.gets c.in-Ok.is same there.0 there.1 in
    turn_codes c.args.passes c.args.place there.0.schema c.args.streams c.args.now c.act-passes.result.0 c.in-Ok.reply gets

pub returns-in-Ok-clause-gets : goal.returns-in-Ok-clause-gets
returns-in-Ok-clause-gets g c = λ spec at.
    let same = to_z-of_z w64 c.args.now c.ranges.now in
    let gets = turn_replies (specs_of c.args.tables.now) c.args.passes c.args.place (command.Commit c.args.streams) _ c.args.now c.act-passes.result.0 c.act-passes.result.1 c.in-Ok.reply
    c.act-passes.ensures.gets c.in-Ok.is same spec at in
    turn_told c.args.passes c.args.place spec.schema (command.Commit c.args.streams) c.args.now c.act-passes.result.0 (told_committed c.args.texts.now) c.in-Ok.reply c.told_committed.result
    gets c.told_committed.ensures

pub returns-in-Ok-clause-loses : goal.returns-in-Ok-clause-loses
returns-in-Ok-clause-loses g c = λ spec at.
    turn_lost c.args.passes c.args.place spec.schema (command.Commit c.args.streams) _ c.args.now c.act-passes.result.0 (told_committed c.args.texts.now) c.told_committed.result
    (c.act-passes.ensures.loses spec at (λ r. r)) (to_z-of_z w64 c.args.now c.ranges.now)
