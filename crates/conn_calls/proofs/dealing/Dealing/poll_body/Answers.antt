-- Each answer of a body is a lemma.
use Rattle.std.proofs.Common.{◌≡◌, ◌∙◌, ap, sym, subst, List, ℕ, [], ◌∷◌, Option, Some, None, Ok, Err}
use Rattle.h2_record.specs.Record.{Reply}
use Rattle.conn_requests.specs.Given.{reply_of}
use Rattle.rows_body.specs.Rows.{Item, Rows, Takes}
use Rattle.rows_body.specs.declared.body.RowsEnd.TheVariants as rows_end
use Rattle.conn_calls.specs.Giving.{Gives}
use Rattle.conn_calls.specs.Dealing.{Dealt}
use Rattle.conn_calls.specs.Polling.{IsWithout}
use Rattle.conn_calls.proofs.PollingLemmas.{still-pending, gave-message, gave-end, gave-error}
use Rattle.conn_calls.proofs.dealing.Dealing.poll_body.Goals as goal

pub returns-in-Pending : goal.returns-in-Pending
returns-in-Pending c before without =
    let room : c.set_room.new.self.left ≡ c.args.body.left = ap (λ (rows : Rows). rows.left) c.set_room.ensures in
    still-pending before c.args.self.now c.args.id c.args.body c.set_room.new.self c.poll_next.new.self without room c.leave.result c.leave.new.self c.in-Pending.ensures.polls.1 c.leave.ensures.conn c.leave.ensures.bodies

pub returns-in-Ready-None : goal.returns-in-Ready-None
returns-in-Ready-None c before without =
    let mid : Dealt = record { conn = c.self.inside.conn; bodies = c.self.inside.bodies.entries } in
    let W : Dealt → Type 0 = λ d. IsWithout before d c.args.id (Some c.args.body) in
    let room : c.set_room.new.self.left ≡ c.args.body.left = ap (λ (rows : Rows). rows.left) c.set_room.ensures in
    let apart = subst W (sym c.self.view_is) without in
    let T : Option Item → Type 0 = λ item. Takes c.set_room.new.self.left c.poll_next.new.self.left item in
    let takes = subst T c.in-Ready-None.field-0-is c.in-Ready-None.ensures.polls.1 in
    gave-end before mid c.args.id c.args.body c.set_room.new.self c.poll_next.new.self apart room c.give_end.result c.give_end.new.conn takes.0 c.give_end.ensures

pub returns-in-Ready-Some-Ok : goal.returns-in-Ready-Some-Ok
returns-in-Ready-Some-Ok c before without =
    let mid : Dealt = record { conn = c.self.inside.conn; bodies = c.self.inside.bodies.entries } in
    let W : Dealt → Type 0 = λ d. IsWithout before d c.args.id (Some c.args.body) in
    let room : c.set_room.new.self.left ≡ c.args.body.left = ap (λ (rows : Rows). rows.left) c.set_room.ensures in
    let apart = subst W (sym c.self.view_is) without in
    let T : Option Item → Type 0 = λ item. Takes c.set_room.new.self.left c.poll_next.new.self.left item in
    let got : c.in-Ready-Some-Ok.field-0 ≡ Some (Ok c.in-Ready-Some-Ok.message) = c.in-Ready-Some-Ok.field-0-is ∙ ap Some c.in-Ready-Some-Ok.field-0-0-is in
    let takes = subst T got c.in-Ready-Some-Ok.ensures.polls.1 in
    let P : List ℕ → Type 0 = λ bytes. Gives c.self.inside.conn c.give_reply.new.conn c.args.id (reply_of bytes ∷ []) in
    gave-message before mid c.args.id c.args.body c.set_room.new.self c.poll_next.new.self apart room c.leave-in-Ready-Some-Ok.result c.give_reply.new.conn c.leave-in-Ready-Some-Ok.new.self c.in-Ready-Some-Ok.message takes
    (subst P c.bytes.ensures c.in_ok-give_reply-in-Ready-Some-Ok.ensures) c.leave-in-Ready-Some-Ok.ensures.conn c.leave-in-Ready-Some-Ok.ensures.bodies

pub returns-in-Ready-Some-Err-PastEnd : goal.returns-in-Ready-Some-Err-PastEnd
returns-in-Ready-Some-Err-PastEnd c before without =
    let mid : Dealt = record { conn = c.self.inside.conn; bodies = c.self.inside.bodies.entries } in
    let W : Dealt → Type 0 = λ d. IsWithout before d c.args.id (Some c.args.body) in
    let room : c.set_room.new.self.left ≡ c.args.body.left = ap (λ (rows : Rows). rows.left) c.set_room.ensures in
    let apart = subst W (sym c.self.view_is) without in
    let T : Option Item → Type 0 = λ item. Takes c.set_room.new.self.left c.poll_next.new.self.left item in
    let arm = c.in-Ready-Some-Err-PastEnd in
    let got : arm.field-0 ≡ Some (Err (rows_end.PastEnd arm.matched)) = arm.field-0-is ∙ ap Some (arm.field-0-0-is ∙ ap Err arm.field-0-0-0-is) in
    let takes = subst T got arm.ensures.polls.1 in
    gave-error before mid c.args.id c.args.body c.set_room.new.self c.poll_next.new.self apart room c.give_past_end.result c.give_past_end.new.conn (rows_end.PastEnd arm.matched) takes.0 c.give_past_end.ensures
