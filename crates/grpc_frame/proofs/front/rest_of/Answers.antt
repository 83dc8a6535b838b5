use Rattle.grpc_frame.proofs.MessagesLemmas.{Begins-more}
use Rattle.grpc_frame.proofs.front.rest_of.Goals as goal

pub loop-len-preserved : goal.loop-len-preserved
loop-len-preserved c = Begins-more c.args.limit c.in-Whole.len _ _ c.loop-len.invariant c.in-Whole.ensures.spelled
