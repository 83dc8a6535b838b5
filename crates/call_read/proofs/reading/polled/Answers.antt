-- One response more, or the end of the body.
use Rattle.std.proofs.Common.{◌≡◌, List, [], ◌∷◌, Some, Ok, Err, ap, subst, ◌∙◌, IfOk, arith}
use Rattle.table_model.specs.declared.reasons.Why.TheVariants as why
use Rattle.conn_requests.specs.declared.answers.Answer.TheVariants as answers
use Rattle.rows_body.specs.Rows.{Takes}
use Rattle.call_read.specs.Items.{status_for}
use Rattle.call_read.proofs.ItemLemmas.{taken_by, told_more, told_end, told_past}
use Rattle.call_read.proofs.reading.polled.Goals as goal

pub loop-message-preserved : goal.loop-message-preserved
loop-message-preserved c =
    let took = taken_by c.loop-message.body c.poll_next.new.self c.poll_next.result c.in-Ready-Some-Ok.field-0 c.poll_next.ensures.polls c.in-Ready-Some-Ok.is in
    let first : c.loop-message.body.left ≡ Ok c.in-Ready-Some-Ok.message ∷ c.poll_next.new.self.left =
    subst (Takes c.loop-message.body.left c.poll_next.new.self.left) (c.in-Ready-Some-Ok.field-0-is ∙ ap Some c.in-Ready-Some-Ok.field-0-0-is) took.0 in
    record {
      told = told_more c.args.body.now.left c.loop-message.body.left c.poll_next.new.self.left c.loop-message.messages.items c.push.new.self.items c.in-Ready-Some-Ok.message
          c.loop-message.invariant.told first c.in_ok-push-in-Ready-Some-Ok.ensures.items;
      room = omega (arith, took.1, c.loop-message.invariant.room);
    }

pub returns-in-Ready-Some-Err-PastEnd : goal.returns-in-Ready-Some-Err-PastEnd
returns-in-Ready-Some-Err-PastEnd c =
    let took = taken_by c.loop-message.body c.poll_next.new.self c.poll_next.result c.in-Ready-Some-Err-PastEnd.field-0 c.poll_next.ensures.polls c.in-Ready-Some-Err-PastEnd.is in
    let last = subst (Takes c.loop-message.body.left c.poll_next.new.self.left)
    (c.in-Ready-Some-Err-PastEnd.field-0-is ∙ ap Some (c.in-Ready-Some-Err-PastEnd.field-0-0-is ∙ ap Err c.in-Ready-Some-Err-PastEnd.field-0-0-0-is)) took.0 in
    ap (λ messages. answers.Ends messages c.in_ok-status-in-Ready-Some-Err-PastEnd.status) c.from_vec.ensures
    ∙ ap (answers.Ends c.loop-message.messages.items) c.in_ok-status-in-Ready-Some-Err-PastEnd.ensures
    ∙ told_past c.args.body.now.left c.loop-message.body.left c.loop-message.messages.items c.in-Ready-Some-Err-PastEnd.field-0-0-0-0 c.loop-message.invariant.told last.0

pub returns-in-Ready-None : goal.returns-in-Ready-None
returns-in-Ready-None c =
    let took = taken_by c.loop-message.body c.poll_next.new.self c.poll_next.result c.in-Ready-None.field-0 c.poll_next.ensures.polls c.in-Ready-None.is in
    let none = subst (Takes c.loop-message.body.left c.poll_next.new.self.left) c.in-Ready-None.field-0-is took.0 in
    subst (λ due. IfOk c.given.result (λ answer. answer ≡ due))
    (ap (λ messages. answers.Ends messages (record { code = 0; text = [] })) c.from_vec-in-Ready-None.ensures
    ∙ told_end c.args.body.now.left c.loop-message.body.left c.loop-message.messages.items c.loop-message.invariant.told none.0)
    c.given.ensures
