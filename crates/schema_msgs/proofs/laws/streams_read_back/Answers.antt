use Rattle.schema_msgs.proofs.StreamBack.{streams_read_back}
use Rattle.schema_msgs.proofs.laws.streams_read_back.Goals as goal

pub returns : goal.returns
returns c = streams_read_back
