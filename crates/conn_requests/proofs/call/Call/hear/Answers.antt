-- What is asked is asked behind the bytes that were held.
use Rattle.std.proofs.Common.{◌≡◌, ◌++◌, [], List, ℕ, subst, sym, ap, ◌∙◌}
use Rattle.conn_requests.specs.declared.asks.Ask.{Ask}
use Rattle.conn_requests.specs.Body.{Body, asks_of, body_after}
use Rattle.conn_requests.specs.Held.{Held}
use Rattle.conn_requests.specs.Taken.{TakesAll}
use Rattle.conn_requests.proofs.TakenLemmas.{tells, asked_all, body_of, body_behind}
use Rattle.conn_requests.proofs.call.Call.hear.Goals as goal

pub returns-clause-asks : goal.returns-clause-asks
returns-clause-asks c =
    let body : Body = body_of c.self.inside.kind c.self.inside.is_coded c.self.inside.deframer.bytes in
    let taken = rw c.new-asks.ensures.items at c.in_ok-part.ensures.takes in
    let told = tells c.in_ok-part.part c.inside-is_inside.result c.hear_messages.new.deframer.bytes c.hear_messages.new.deframer.limit c.in_ok-part.ensures.part taken.none_left c.in_ok-part.ensures.limit c.inside-is_inside.ensures.after_more in
    subst (λ (h : Held). c.hear_rest.new.asks.items ≡ asks_of h.body c.args.bytes.now c.args.ended) c.self.view_is (asked_all body c.args.bytes.now c.feed.new.self.bytes c.hear_messages.new.deframer.bytes c.hear_messages.new.kind c.hear_messages.new.asks.items c.hear_rest.new.asks.items c.in_ok-part.part c.args.ended c.in_ok-feed.ensures.fed taken c.in_ok-part.ensures.part (c.in_ok-hear_rest.ensures.asks c.hear_messages.new.deframer.bytes told))

pub returns-clause-body : goal.returns-clause-body
returns-clause-body c goes_on =
    let body : Body = body_of c.self.inside.kind c.self.inside.is_coded c.self.inside.deframer.bytes in
    let taken = rw c.new-asks.ensures.items at c.in_ok-part.ensures.takes in
    subst (λ (h : Held). body_of c.hear_rest.new.kind c.self.inside.is_coded c.hear_messages.new.deframer.bytes ≡ body_after h.body c.args.bytes.now) c.self.view_is (body_behind body c.args.bytes.now c.feed.new.self.bytes c.hear_messages.new.deframer.bytes c.hear_messages.new.kind c.hear_rest.new.kind c.hear_messages.new.asks.items c.in_ok-feed.ensures.fed taken (c.in_ok-hear_rest.ensures.kind goes_on))
