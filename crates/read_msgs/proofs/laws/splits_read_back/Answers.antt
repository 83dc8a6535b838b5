use Rattle.read_msgs.proofs.CallsBack.{split_requests_back, split_responses_back}
use Rattle.read_msgs.proofs.laws.splits_read_back.Goals as goal

pub returns-clause-request : goal.returns-clause-request
returns-clause-request c = split_requests_back

pub returns-clause-response : goal.returns-clause-response
returns-clause-response c = split_responses_back
