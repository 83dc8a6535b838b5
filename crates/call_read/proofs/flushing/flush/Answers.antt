use Rattle.std.proofs.Common.{refl}
use Rattle.write_msgs.specs.Streams.{flush_rows_request_of}
use Rattle.open_tables.specs.Tables.{specs_of}
use Rattle.call_plans.specs.Flushing.{flush_by, flush_plan}
use Rattle.call_read.proofs.ReadLemmas.{unread}
use Rattle.call_read.proofs.flushing.flush.Goals as goal

pub returns-in-Err-clause-gets : goal.returns-in-Err-clause-gets
unfolding flush_plan
returns-in-Err-clause-gets g c =
    unread (flush_by (specs_of c.args.tables.now)) c.args.passes c.args.now c.in-Err.fault (flush_rows_request_of c.args.message.now) c.unreadable.result refl c.in-Err.ensures
    c.unreadable.ensures.value c.unreadable.ensures.broken
