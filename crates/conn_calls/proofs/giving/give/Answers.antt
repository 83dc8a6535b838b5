use Rattle.std.proofs.Common.{List, ℕ, subst, sym, map}
use Rattle.std.specs.Prelude.{OnOk}
use Rattle.conn_requests.specs.declared.answers.Answer.{Answer}
use Rattle.conn_requests.specs.Given.{reply_of, parts_of}
use Rattle.conn_calls.specs.Giving.{Gives}
use Rattle.conn_calls.proofs.GivingLemmas.{ends-given, on-ok}
use Rattle.conn_calls.proofs.giving.give.Goals as goal

pub returns-in_ok-give_replies-in-Ends : goal.returns-in_ok-give_replies-in-Ends
returns-in_ok-give_replies-in-Ends c =
    let P : List (List ℕ) → Type 0 = λ l. Gives c.give_opening-in-Ends.new.conn c.give_replies.new.conn c.args.id (map reply_of l) in
    let Q : Answer → Type 0 = λ a. OnOk c.give_tail.result (Gives c.args.conn.now c.give_tail.new.conn c.args.id (parts_of c.args.begun a)) in
    let replies = subst P c.blobs.ensures c.in_ok-give_replies-in-Ends.ensures in
    subst Q (sym c.in-Ends.is)
    (on-ok c.give_tail.result (ends-given c.args.conn.now c.give_opening-in-Ends.new.conn c.give_replies.new.conn c.give_tail.new.conn c.args.id c.args.begun c.in-Ends.messages c.in-Ends.status c.in_ok-give_opening-in-Ends.ensures replies) c.give_tail.ensures)

pub returns-in-Http : goal.returns-in-Http
returns-in-Http c =
    let Q : Answer → Type 0 = λ a. OnOk c.give_http.result (Gives c.args.conn.now c.give_http.new.conn c.args.id (parts_of c.args.begun a)) in
    subst Q (sym c.in-Http.is) (c.give_http.ensures c.args.begun)
