use Rattle.h2_frames.proofs.FramingLemmas.{given, begins, more_exactly, one_framing, read_on}
use Rattle.h2_frames.proofs.Soundness.{IsFrame-spelled, IsWritable-spelled}
use Rattle.h2_frames.proofs.Written.{written}
use Rattle.h2_frames.proofs.laws.spellings_are_read.Goals as goal

pub returns-clause-given : goal.returns-clause-given
returns-clause-given c = given

pub returns-clause-only : goal.returns-clause-only
returns-clause-only c = begins

pub returns-clause-more : goal.returns-clause-more
returns-clause-more c = more_exactly

pub returns-clause-sound : goal.returns-clause-sound
returns-clause-sound c = IsFrame-spelled

pub returns-clause-condition : goal.returns-clause-condition
returns-clause-condition c = IsWritable-spelled

pub returns-clause-written : goal.returns-clause-written
returns-clause-written c = written

pub returns-clause-one : goal.returns-clause-one
returns-clause-one c = one_framing

pub returns-clause-onward : goal.returns-clause-onward
returns-clause-onward c = read_on
