use Rattle.schema_msgs.proofs.StreamBack.{create_requests_read_back}
use Rattle.schema_msgs.proofs.laws.create_requests_read_back.Goals as goal

pub returns : goal.returns
returns c = create_requests_read_back
