use Rattle.std.proofs.Common.{refl}
use Rattle.schema_msgs.specs.Stream.{create_write_stream_request_of}
use Rattle.open_tables.specs.Tables.{specs_of}
use Rattle.call_plans.specs.Creating.{create_by, create_plan}
use Rattle.call_read.proofs.ReadLemmas.{unread}
use Rattle.call_read.proofs.creating.create.Goals as goal

pub returns-in-Err-clause-gets : goal.returns-in-Err-clause-gets
unfolding create_plan
returns-in-Err-clause-gets g c =
    unread (create_by (specs_of c.args.tables.now)) c.args.passes c.args.now c.in-Err.fault (create_write_stream_request_of c.args.message.now) c.unreadable.result refl c.in-Err.ensures
    c.unreadable.ensures.value c.unreadable.ensures.broken
