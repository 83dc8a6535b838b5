use Rattle.read_msgs.proofs.SessionBack.{sessions_back, create_requests_back}
use Rattle.read_msgs.proofs.laws.sessions_read_back.Goals as goal

pub returns-clause-session : goal.returns-clause-session
returns-clause-session c = sessions_back

pub returns-clause-request : goal.returns-clause-request
returns-clause-request c = create_requests_back
