use Rattle.program.proofs.TypedLemmas.{replied_as_before, reply_is_small}
use Rattle.program.proofs.typed_table.TypedTable.answer_as_before.Goals as goal

pub returns-clause-answered : goal.returns-clause-answered
returns-clause-answered c =
    replied_as_before c.self.inside.table c.answer_rows-told.new.table c.self.inside.writer c.args.self.now c.args.request.now c.rows_named-rows.result.now c.answer_rows-told.result c.replied.result
    c.self.view_is c.rows_named-rows.ensures c.requires.unnamed c.answer_rows-told.ensures.outcome c.replied.ensures

pub returns-clause-size : goal.returns-clause-size
returns-clause-size c = reply_is_small c.answer_rows-told.result c.replied.result c.answer_rows-told.ensures.size c.replied.ensures
