use Rattle.std.proofs.Common.{refl}
use Rattle.read_msgs.specs.Streams.{split_read_stream_request_of}
use Rattle.open_tables.specs.Tables.{specs_of}
use Rattle.call_plans.specs.Splitting.{split_by, split_plan}
use Rattle.call_read.proofs.ReadLemmas.{unread}
use Rattle.call_read.proofs.splitting.split.Goals as goal

pub returns-in-Err-clause-gets : goal.returns-in-Err-clause-gets
unfolding split_plan
returns-in-Err-clause-gets g c =
    unread (split_by (specs_of c.args.tables.now)) c.args.passes c.args.now c.in-Err.fault (split_read_stream_request_of c.args.message.now) c.unreadable.result refl c.in-Err.ensures
    c.unreadable.ensures.value c.unreadable.ensures.broken
