use Rattle.h2_frames.proofs.RunLemmas.{reading_of_all, one_reading, lasting}
use Rattle.h2_frames.proofs.laws.readings_agree.Goals as goal

pub returns-clause-all : goal.returns-clause-all
returns-clause-all c = reading_of_all

pub returns-clause-one : goal.returns-clause-one
returns-clause-one c = one_reading

pub returns-clause-lasting : goal.returns-clause-lasting
returns-clause-lasting c = lasting
