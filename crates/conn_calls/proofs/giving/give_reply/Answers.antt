use Rattle.std.proofs.Common.{refl, subst, List, ℕ, [], ◌∷◌}
use Rattle.std.specs.Prelude.{OnOk}
use Rattle.h2_record.specs.Record.{Reply}
use Rattle.conn_calls.specs.Giving.{Gives}
use Rattle.conn_calls.proofs.GivingLemmas.{reply-given, on-ok}
use Rattle.conn_calls.proofs.giving.give_reply.Goals as goal

pub returns : goal.returns
returns c =
    let may = c.if-not-may_go_on.ensures in
    let both = may.0 refl in
    let P : List ℕ → Type 0 = λ l. OnOk c.body.result (Gives c.args.conn.now c.body.new.self c.args.id (Reply l ∷ [])) in
    subst P c.in_ok-framed.ensures (on-ok c.body.result (reply-given c.args.conn.now c.body.new.self c.args.id c.in_ok-framed.framed both.0 both.1) c.body.ensures.stands)
