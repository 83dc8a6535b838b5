use Rattle.message_laws.proofs.CommitsBack.{commit_requests_read_back, commit_responses_read_back}
use Rattle.message_laws.proofs.laws.commits_read_back.Goals as goal

pub returns-clause-request : goal.returns-clause-request
returns-clause-request c = commit_requests_read_back

pub returns-clause-response : goal.returns-clause-response
returns-clause-response c = commit_responses_read_back
