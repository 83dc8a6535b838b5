-- The answer of the append is the answer to the message.
use Rattle.std.proofs.Common.{◌≡◌}
use Rattle.program.proofs.BodyLemmas.{AnswersOne-given}
use Rattle.program.proofs.tables.OpaqueTableAnswers.answer.Goals as goal

pub returns : goal.returns
returns c = record {
  one = AnswersOne-given c.self.inside.rows c.args.self.now c.append-appended.new.self c.args.message.now c.in-Ok.request c.into_vec.result.items
      c.append-appended.result c.answer_append.result c.self.view_is c.into_vec.ensures c.in-Ok.ensures c.append-appended.ensures c.answer_append.ensures;
}
