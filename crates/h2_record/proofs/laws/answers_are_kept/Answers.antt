use Rattle.h2_record.proofs.WrittenLaws.{written-front, written-all}
use Rattle.h2_record.proofs.laws.answers_are_kept.Goals as goal

pub returns : goal.returns
returns c r = record { fronts = written-front r; all = written-all r }
