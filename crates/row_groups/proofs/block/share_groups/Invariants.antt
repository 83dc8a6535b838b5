-- The groups shared so far are those up to here.
use Rattle.std.proofs.Common.{◌≡◌, take}
use Rattle.row_groups.proofs.block.share_groups.Given as goal

abbrev pub invariant-loop-group : goal.invariant-loop-group
invariant-loop-group l = l.shared.items ≡ take l.group-index l.groups
