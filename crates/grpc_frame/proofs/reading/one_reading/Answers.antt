use Rattle.grpc_frame.proofs.PartLemmas.{part_of-stays}
use Rattle.grpc_frame.proofs.MessagesLemmas.{Messages-unique, Messages-some}
use Rattle.grpc_frame.proofs.SplitLemmas.{split_of-is, split_of-reads}
use Rattle.grpc_frame.proofs.reading.one_reading.Goals as goal

pub returns-clause-some : goal.returns-clause-some
returns-clause-some c = Messages-some

pub returns-clause-unique : goal.returns-clause-unique
returns-clause-unique c = Messages-unique

pub returns-clause-stays : goal.returns-clause-stays
returns-clause-stays c = part_of-stays

pub returns-clause-split : goal.returns-clause-split
returns-clause-split c = split_of-reads

pub returns-clause-split_is : goal.returns-clause-split_is
returns-clause-split_is c = split_of-is
