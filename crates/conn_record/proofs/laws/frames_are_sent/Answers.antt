-- Each is a lemma.
use Rattle.conn_record.proofs.Sending.{front_more, parts-are-sent, all-are-sent}
use Rattle.conn_record.proofs.Own.{own-stays, own-is-sent}
use Rattle.conn_record.proofs.laws.frames_are_sent.Goals as goal

pub returns-clause-fronts : goal.returns-clause-fronts
returns-clause-fronts c = front_more

pub returns-clause-parts : goal.returns-clause-parts
returns-clause-parts c = parts-are-sent

pub returns-clause-all : goal.returns-clause-all
returns-clause-all c = all-are-sent

pub returns-clause-own : goal.returns-clause-own
returns-clause-own c = own-stays

pub returns-clause-own_sent : goal.returns-clause-own_sent
returns-clause-own_sent c = own-is-sent
