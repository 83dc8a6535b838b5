use Rattle.std.proofs.Common.{refl}
use Rattle.read_msgs.specs.Rows.{read_rows_request_of}
use Rattle.open_tables.specs.Tables.{specs_of}
use Rattle.open_tables.specs.Plans.{Gets}
use Rattle.call_plans.specs.Reading.{read_by, read_plan}
use Rattle.call_read.specs.Items.{told}
use Rattle.call_read.proofs.ReadLemmas.{unread, tells}
use Rattle.call_read.proofs.bodies.rows.Goals as goal

pub returns-in-Err-clause-gets : goal.returns-in-Err-clause-gets
unfolding read_plan
returns-in-Err-clause-gets g c =
    tells told (λ answer. Gets c.args.passes (read_plan (specs_of c.args.tables.now) c.args.message.now) c.args.now answer c.args.passes) c.unreadable.result c.ended.result c.ended.ensures
    (unread (read_by (specs_of c.args.tables.now)) c.args.passes c.args.now c.in-Err.fault (read_rows_request_of c.args.message.now) c.unreadable.result refl c.in-Err.ensures
    c.unreadable.ensures.value c.unreadable.ensures.broken)
