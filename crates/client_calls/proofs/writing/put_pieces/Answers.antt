-- A piece is the front of the rest.
use Rattle.std.proofs.Common.{◌∙◌, length, sym}
use Rattle.client_calls.proofs.ByteLemmas.{piece-more, pieces-over, some-left, none-left}
use Rattle.client_calls.proofs.writing.put_pieces.Goals as goal

pub loop-rest-preserved : goal.loop-rest-preserved
loop-rest-preserved c =
    let some = some-left (length c.loop-rest.rest.now) (sym c.is_empty.ensures ∙ c.loop-rest-test.true) in
    piece-more c.args.stream c.min.result c.loop-rest.out.items c.put_data.new.out.items c.loop-rest.rest.now _ _ some c.min.ensures c.split_at.ensures.front c.split_at.ensures.back c.in_ok-put_data.ensures
    ∙ c.loop-rest.invariant

pub returns : goal.returns
returns c =
    let none = none-left (length c.loop-rest.rest.now) (sym c.is_empty.ensures ∙ c.loop-rest-test.false) in
    pieces-over c.args.stream c.loop-rest.out.items _ c.loop-rest.rest.now none c.loop-rest.invariant
