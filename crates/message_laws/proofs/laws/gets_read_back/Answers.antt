use Rattle.message_laws.proofs.StreamsBack.{get_requests_read_back}
use Rattle.message_laws.proofs.laws.gets_read_back.Goals as goal

pub returns : goal.returns
returns c = get_requests_read_back
