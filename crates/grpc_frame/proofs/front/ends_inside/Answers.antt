use Rattle.std.proofs.Common.{arith}
use Rattle.grpc_frame.proofs.MessagesLemmas.{IsInside-is}
use Rattle.grpc_frame.proofs.front.ends_inside.Goals as goal

pub returns : goal.returns
returns c = (
  λ yes. let found = c.is_unfinished.ensures.0 yes in (c.rest_of.ensures.0, c.rest_of.result.now, c.rest_of.ensures.1, found.0, found.1),
  λ inside. c.is_unfinished.ensures.1 (IsInside-is c.args.limit _ _ (omega (arith, c.ranges.limit)) c.rest_of.ensures inside),
)
