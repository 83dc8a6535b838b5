use Rattle.message_laws.proofs.StreamsBack.{flush_requests_read_back, flush_responses_read_back}
use Rattle.message_laws.proofs.laws.flushes_read_back.Goals as goal

pub returns-clause-request : goal.returns-clause-request
returns-clause-request c = flush_requests_read_back

pub returns-clause-response : goal.returns-clause-response
returns-clause-response c = flush_responses_read_back
