use Rattle.std.proofs.Common.{refl}
use Rattle.read_msgs.specs.Sessions.{create_read_session_request_of}
use Rattle.open_tables.specs.Tables.{specs_of}
use Rattle.call_plans.specs.Sessions.{create_session_by, create_session_plan}
use Rattle.call_read.proofs.ReadLemmas.{unread}
use Rattle.call_read.proofs.sessions.create_session.Goals as goal

pub returns-in-Err-clause-gets : goal.returns-in-Err-clause-gets
unfolding create_session_plan
returns-in-Err-clause-gets g c =
    unread (create_session_by (specs_of c.args.tables.now)) c.args.passes c.args.now c.in-Err.fault (create_read_session_request_of c.args.message.now) c.unreadable.result refl c.in-Err.ensures
    c.unreadable.ensures.value c.unreadable.ensures.broken
