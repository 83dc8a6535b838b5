-- Each is a lemma.
use Rattle.conn_deferral.proofs.Agreeing.{stays-deferred, given-at-once, given-late, left-to-give}
use Rattle.conn_deferral.proofs.laws.parts_are_deferred.Goals as goal

pub returns-clause-stays : goal.returns-clause-stays
returns-clause-stays c = stays-deferred

pub returns-clause-given : goal.returns-clause-given
returns-clause-given c = given-at-once

pub returns-clause-late : goal.returns-clause-late
returns-clause-late c = given-late

pub returns-clause-left : goal.returns-clause-left
returns-clause-left c = left-to-give
