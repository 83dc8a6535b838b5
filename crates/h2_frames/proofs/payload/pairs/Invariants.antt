use Rattle.std.proofs.Common.{◌≡◌, ◌++◌, length}
use Rattle.h2_frames.specs.Frame.{pairs_of}
use Rattle.h2_frames.proofs.payload.pairs.Given as goal

-- the pairs read so far, and those of the rest
abbrev pub invariant-loop-rest : goal.invariant-loop-rest
invariant-loop-rest l = l.pairs.items ++ pairs_of l.rest ≡ pairs_of l.payload

abbrev pub decreases-loop-rest : goal.decreases-loop-rest
decreases-loop-rest l = length l.rest
