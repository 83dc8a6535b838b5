use Rattle.program.proofs.TypedLemmas.{answered_none, request_is_small}
use Rattle.program.proofs.typed_table.TypedTableAnswers.answer.Goals as goal

pub answer_request-requires : goal.answer_request-requires
answer_request-requires c = record { small = request_is_small c.args.message.now c.in-Ok.request c.requires c.in-Ok.ensures }

pub returns : goal.returns
returns c = record {
  one = answered_none c.args.self.now c.answer_request.new.self c.args.message.now c.in-Ok.request c.in-Err-answer_request.field-0 c.in-Ok.ensures c.in-Err-answer_request.ensures.answered;
}
