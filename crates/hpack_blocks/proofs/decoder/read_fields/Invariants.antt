use Rattle.std.proofs.Common.{◌-◌, ◌≤◌, length, drop}
use Rattle.hpack_blocks.specs.Block.{fields_from}
use Rattle.hpack_blocks.proofs.BlockLemmas.{IsRead}
use Rattle.hpack_blocks.proofs.decoder.read_fields.Given as goal

abbrev pub invariant-loop-at : goal.invariant-loop-at
invariant-loop-at l = (l.at ≤ length l.bytes) × IsRead l.list l.table (drop l.at l.bytes) (fields_from l.fn.table 0 l.bytes)

abbrev pub decreases-loop-at : goal.decreases-loop-at
decreases-loop-at l = length l.bytes - l.at
