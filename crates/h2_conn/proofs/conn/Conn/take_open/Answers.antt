-- A frame of an open connection.
use Rattle.std.proofs.Common.{sym, ◌∙◌}
use Rattle.h2_conn.proofs.SettledFaults.{breaks-early}
use Rattle.h2_conn.proofs.FollowLemmas.{follows-fault}
use Rattle.h2_conn.proofs.conn.Conn.take_open.Goals as goal

pub returns-in-Some : goal.returns-in-Some
returns-in-Some c = λ r s.
    let settled = c.in_ok-settle.ensures.stands r s in
    let broken = breaks-early _ r c.args.frame c.in-Some.fault settled (sym c.early_fault.ensures ∙ c.in-Some.is) in
    follows-fault r c.args.frame _ c.in-Some.fault s.sound broken c.in_ok-fail.ensures.fault
    (c.in_ok-fail.ensures.stands r c.args.frame s.sound (record { breaks = broken; controls = settled.controls; last = settled.streams.last; headed = settled.headed }))
