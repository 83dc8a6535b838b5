-- HEADERS are given to both records, and what follows is left.
use Rattle.std.proofs.Common.{◌≡◌, ◌∙◌, ap, sym, subst, refl, false}
use Rattle.std.specs.Prelude.{is_some}
use Rattle.call_read.specs.Items.{told_items}
use Rattle.conn_requests.specs.Given.{parts_of}
use Rattle.conn_calls.specs.Dealing.{Dealt, body_in, dealing_of, Decides}
use Rattle.conn_calls.proofs.GivingLemmas.{on-ok}
use Rattle.conn_calls.proofs.DealingLemmas.{body-left}
use Rattle.conn_calls.proofs.asking.give_body.Goals as goal

pub returns : goal.returns
returns c asked reads =
    let old : Dealt = record { conn = c.conn.inside.conn; bodies = c.conn.inside.bodies.entries } in
    let given : Dealt = record { conn = c.give_opening.new.conn; bodies = c.conn.inside.bodies.entries } in
    let none : is_some (body_in old.bodies c.args.id) ≡ false = ap (λ (d : Dealt). is_some (body_in d.bodies c.args.id)) c.conn.view_is ∙ sym c.has_body.ensures ∙ c.if-has_body.false in
    let may = c.if-not-may_go_on.ensures.0 refl in
    let ended = c.if-not-has_ended.ensures.0 refl in
    let D : Dealt → Type 0 = λ d. Decides (dealing_of d) (dealing_of c.leave.new.self) c.args.id asked (parts_of c.args.begun (told_items c.args.body.left)) in
    on-ok c.leave.result
    (λ puts.
    subst D c.conn.view_is
    (body-left old given c.leave.new.self c.args.id c.args.begun asked c.args.body reads none c.in_ok-give_opening.ensures refl may.0 may.1 ended c.leave.ensures.conn puts))
    c.leave.ensures.bodies
