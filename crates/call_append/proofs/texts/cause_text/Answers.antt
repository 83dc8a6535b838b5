-- The text is short.
use Rattle.call_append.proofs.ResponseSizes.{text_short}
use Rattle.call_append.proofs.texts.cause_text.Goals as goal

pub returns-clause-short : goal.returns-clause-short
returns-clause-short c = text_short c.args.cause.now c.phrase_and_carried.result c.phrase_and_carried.ensures
