-- Each is a lemma.
use Rattle.conn_record.proofs.Marks.{marks-change-nothing, outs-stand, timelines-are-unmarked, timelines-are-spelled, sound-is-unbroken}
use Rattle.conn_record.proofs.laws.marks_change_nothing.Goals as goal

pub returns-clause-same : goal.returns-clause-same
returns-clause-same c = marks-change-nothing

pub returns-clause-outs : goal.returns-clause-outs
returns-clause-outs c = outs-stand

pub returns-clause-unmarked : goal.returns-clause-unmarked
returns-clause-unmarked c = timelines-are-unmarked

pub returns-clause-spelled : goal.returns-clause-spelled
returns-clause-spelled c = timelines-are-spelled

pub returns-clause-unbroken : goal.returns-clause-unbroken
returns-clause-unbroken c = sound-is-unbroken
