-- The blocks shared so far are those up to here.
use Rattle.std.proofs.Common.{◌≡◌, take}
use Rattle.row_groups.proofs.block.share_blocks.Given as goal

abbrev pub invariant-loop-block : goal.invariant-loop-block
invariant-loop-block l = l.shared.items ≡ take l.block-index l.blocks
