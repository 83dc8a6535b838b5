use Rattle.read_msgs.proofs.CallsBack.{rows_requests_back, rows_responses_back}
use Rattle.read_msgs.proofs.laws.rows_read_back.Goals as goal

pub returns-clause-request : goal.returns-clause-request
returns-clause-request c = rows_requests_back

pub returns-clause-response : goal.returns-clause-response
returns-clause-response c = rows_responses_back
