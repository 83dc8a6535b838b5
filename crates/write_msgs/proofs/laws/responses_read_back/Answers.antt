use Rattle.write_msgs.proofs.ResponseBack.{responses_read_back}
use Rattle.write_msgs.proofs.laws.responses_read_back.Goals as goal

pub returns : goal.returns
returns c = responses_read_back
