use Rattle.std.proofs.Common.{◌≡◌, ◌-◌, ◌≤◌, length, drop}
use Rattle.hpack_blocks.specs.Block.{block_from}
use Rattle.hpack_blocks.proofs.decoder.read_updates.Given as goal

abbrev pub invariant-loop-at : goal.invariant-loop-at
invariant-loop-at l = (l.at ≤ length l.block) × (block_from l.table 0 (drop l.at l.block) ≡ block_from l.fn.table 0 l.block)

abbrev pub decreases-loop-at : goal.decreases-loop-at
decreases-loop-at l = length l.block - l.at
