use Rattle.std.proofs.Common.{refl}
use Rattle.conn_calls.proofs.GivingLemmas.{head-given, on-ok}
use Rattle.conn_calls.proofs.giving.give_head.Goals as goal

pub returns : goal.returns
returns c =
    let may = c.if-not-may_begin.ensures in
    let both = may.0 refl in
    on-ok c.head.result (head-given c.args.conn.now c.head.new.self c.args.id c.args.fields.now c.args.end both.0 both.1 c.requires.short) c.head.ensures.stands
