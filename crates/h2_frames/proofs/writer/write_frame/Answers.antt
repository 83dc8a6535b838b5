use Rattle.h2_frames.proofs.Written.{written}
use Rattle.h2_frames.proofs.writer.write_frame.Goals as goal

pub returns-clause-spelled : goal.returns-clause-spelled
returns-clause-spelled c = written c.args.frame.now c.requires
