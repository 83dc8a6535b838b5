-- The window pays, and then the stream ends.
use Rattle.std.proofs.Common.{◌∙◌}
use Rattle.h2_conn.proofs.PayloadLemmas.{pays-ending, there-received, near-received, last-received, near-settled, last-settled}
use Rattle.h2_conn.proofs.payload.pay.Goals as goal

pub end-requires : goal.end-requires
end-requires c = there-received c.args.streams.now c.body.new.self c.body.new.self c.args.id c.args.counted c.in-Ok.field-0 c.in-Ok.ensures

pub returns-then-end-clause-pays : goal.returns-then-end-clause-pays
returns-then-end-clause-pays c = rw c.if-end.true (pays-ending c.args.streams.now c.body.new.self c.end.new.self c.args.id c.args.counted c.in-Ok.field-0 c.in-Ok.ensures c.end.ensures)

pub returns-then-end-clause-near : goal.returns-then-end-clause-near
returns-then-end-clause-near c = λ initial near.
    let old = c.args.streams.now in
    let between = c.body.new.self in
    near-settled initial c.args.id between c.end.new.self (there-received old between between c.args.id c.args.counted c.in-Ok.field-0 c.in-Ok.ensures) c.end.ensures
    (near-received old between between c.args.id c.args.counted initial c.in-Ok.field-0 c.in-Ok.ensures near)

pub returns-then-end-clause-last : goal.returns-then-end-clause-last
returns-then-end-clause-last c =
    let old = c.args.streams.now in
    let between = c.body.new.self in
    last-settled c.args.id between c.end.new.self (there-received old between between c.args.id c.args.counted c.in-Ok.field-0 c.in-Ok.ensures) c.end.ensures
    ∙ last-received old between between c.args.id c.args.counted c.in-Ok.field-0 c.in-Ok.ensures

pub returns-else-end-clause-near : goal.returns-else-end-clause-near
returns-else-end-clause-near c = λ initial near. near-received c.args.streams.now c.body.new.self c.body.new.self c.args.id c.args.counted initial c.in-Ok.field-0 c.in-Ok.ensures near
