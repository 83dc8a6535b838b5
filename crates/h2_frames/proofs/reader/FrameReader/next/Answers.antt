use Rattle.h2_frames.proofs.AnswerLemmas.{answers}
use Rattle.h2_frames.proofs.reader.FrameReader.next.Goals as goal

pub returns-clause-spelled : goal.returns-clause-spelled
returns-clause-spelled c = answers c.answer.result c.args.self.now _ c.answer.ensures.ok c.answer.ensures.after
