use Rattle.std.proofs.Common.{List, ℕ, subst, [], ◌∷◌}
use Rattle.conn_requests.specs.Given.{reply_of}
use Rattle.conn_calls.specs.Giving.{Gives}
use Rattle.conn_calls.proofs.GivingLemmas.{replies-more}
use Rattle.conn_calls.proofs.giving.give_replies.Goals as goal

pub loop-message-preserved : goal.loop-message-preserved
loop-message-preserved c =
    let P : List ℕ → Type 0 = λ m. Gives c.loop-message.conn c.give_reply.new.conn c.args.id (reply_of m ∷ []) in
    replies-more c.args.conn.now c.loop-message.conn c.give_reply.new.conn c.args.id c.args.messages.now c.loop-message.message-index c.message-item.result c.loop-message-test.true c.message-item.is c.loop-message.invariant (subst P c.bytes.ensures c.in_ok-give_reply.ensures)
