-- The reply is told, of the columns that were copied.
use mir.Syntax.{w32, w64}
use Rattle.std.proofs.lemmas.Int.{to_z-of_z}
use Rattle.table_model.specs.declared.commands.Command.TheVariants as command
use Rattle.open_tables.specs.Tables.{specs_of}
use Rattle.call_read.proofs.SessionLemmas.{gets-begun, turn_gives}
use Rattle.call_read.proofs.sessions.session_at.Goals as goal

pub returns-in-Ok-reply-clause-gets : goal.returns-in-Ok-reply-clause-gets
returns-in-Ok-reply-clause-gets g c = λ spec there.
    let count = to_z-of_z w32 c.args.count c.ranges.count in
    let given = turn_gives (specs_of c.args.tables.now) c.args.passes c.args.wanted.place (command.Session c.args.wanted.pred c.in-Ok.chosen _ c.args.wanted.snapshot) _ c.act-passes.result.0 c.act-passes.result.1
    c.in-Ok-reply.reply spec c.act-passes.ensures.gets c.in-Ok-reply.is there in
    gets-begun c.args.passes c.act-passes.result.0 c.args.wanted.project c.args.asked.now c.args.wanted.place spec c.args.count c.args.wanted.fields c.args.wanted.pred c.args.now c.in-Ok.chosen _ _ c.args.wanted.snapshot _ c.spec.result.now
    c.in-Ok-reply.reply c.told_begun.result c.in-Ok.ensures count (to_z-of_z w64 c.args.now c.ranges.now) c.requires.snapshot there c.spec.ensures c.told_begun.ensures given
