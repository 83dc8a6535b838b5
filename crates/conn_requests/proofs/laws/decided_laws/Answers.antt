use Rattle.conn_requests.proofs.EndedLemmas.{decide_all-ended}
use Rattle.conn_requests.proofs.PlayedLemmas.{play-played}
use Rattle.conn_requests.proofs.laws.decided_laws.Goals as goal

pub returns-clause-used : goal.returns-clause-used
returns-clause-used c answers frames = (play-played answers frames).used_are

pub returns-clause-frames : goal.returns-clause-frames
returns-clause-frames c answers frames = (play-played answers frames).frames_are

pub returns-clause-spelled : goal.returns-clause-spelled
returns-clause-spelled c answers frames all = (play-played answers frames).spelled all

pub returns-clause-ended : goal.returns-clause-ended
returns-clause-ended c = decide_all-ended
