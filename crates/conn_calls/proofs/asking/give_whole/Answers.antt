-- The parts are given to both records.
use Rattle.std.proofs.Common.{◌≡◌, ◌∙◌, ap, sym, subst, refl, false}
use Rattle.std.specs.Prelude.{is_some}
use Rattle.conn_requests.specs.Given.{parts_of}
use Rattle.conn_calls.specs.Dealing.{Dealt, body_in, dealing_of, Decides}
use Rattle.conn_calls.proofs.GivingLemmas.{on-ok}
use Rattle.conn_calls.proofs.DealingLemmas.{given-at-once}
use Rattle.conn_calls.proofs.asking.give_whole.Goals as goal

pub returns : goal.returns
returns c asked =
    let old : Dealt = record { conn = c.conn.inside.conn; bodies = c.conn.inside.bodies.entries } in
    let new : Dealt = record { conn = c.give.new.conn; bodies = c.conn.inside.bodies.entries } in
    let none : is_some (body_in old.bodies c.args.id) ≡ false = ap (λ (d : Dealt). is_some (body_in d.bodies c.args.id)) c.conn.view_is ∙ sym c.has_body.ensures ∙ c.if-has_body.false in
    let D : Dealt → Type 0 = λ d. Decides (dealing_of d) (dealing_of new) c.args.id asked (parts_of c.args.begun c.args.answer.now) in
    on-ok c.give.result (λ gives. subst D c.conn.view_is (given-at-once old new c.args.id asked (parts_of c.args.begun c.args.answer.now) gives refl none)) c.give.ensures
