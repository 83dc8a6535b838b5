use Rattle.std.proofs.Common.{ap, ◌∙◌, arith}
use Rattle.h2_frames.specs.Frame.{pair_of}
use Rattle.h2_frames.proofs.PairLemmas.{pairs_step}
use Rattle.h2_frames.proofs.payload.pairs.Goals as goal

pub loop-rest-preserved : goal.loop-rest-preserved
loop-rest-preserved c =
    rw c.in_ok-push.ensures.items (pairs_step c.loop-rest.pairs.items c.pair.result c.loop-rest.rest.now c.split_at.result.1.now c.args.payload.now
    (omega arith) (c.pair.ensures ∙ ap pair_of c.split_at.ensures.front)
    c.split_at.ensures.back c.loop-rest.invariant)
