use Rattle.write_msgs.proofs.RequestBack.{requests_read_back}
use Rattle.write_msgs.proofs.laws.requests_read_back.Goals as goal

pub returns : goal.returns
returns c = requests_read_back
