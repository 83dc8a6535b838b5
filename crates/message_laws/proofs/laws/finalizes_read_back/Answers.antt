use Rattle.message_laws.proofs.StreamsBack.{finalize_requests_read_back, finalize_responses_read_back}
use Rattle.message_laws.proofs.laws.finalizes_read_back.Goals as goal

pub returns-clause-request : goal.returns-clause-request
returns-clause-request c = finalize_requests_read_back

pub returns-clause-response : goal.returns-clause-response
returns-clause-response c = finalize_responses_read_back
