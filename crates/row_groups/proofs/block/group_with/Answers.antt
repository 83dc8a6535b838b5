-- What the binary search found has the position.
use Rattle.std.proofs.Common.{leb, rules}
use Rattle.std.proofs.lemmas.List.Sorted.{IsPartitionPoint-from_clause, IsPartitionedBy-leb}
use Rattle.row_groups.specs.Kept.{group_start, group_size}
use Rattle.row_groups.proofs.StartLemmas.{rises, covers}
use Rattle.row_groups.proofs.block.group_with.Goals as goal

pub overflow_sub-result : goal.overflow_sub-result
overflow_sub-result c =
    let parted = IsPartitionedBy-leb group_start _ c.args.position (rises group_start group_size c.requires.at _ c.requires.starts) in
    let point = IsPartitionPoint-from_clause (λ g. leb (group_start g) c.args.position) _ _ c.partition_point.ensures.partitioned parted (λ a r q k. search rules) in
    (covers group_start group_size c.requires.at _ c.args.position _ c.requires.starts c.requires.low c.requires.high point c.partition_point.ensures.bound).0

pub returns : goal.returns
returns c =
    let parted = IsPartitionedBy-leb group_start _ c.args.position (rises group_start group_size c.requires.at _ c.requires.starts) in
    let point = IsPartitionPoint-from_clause (λ g. leb (group_start g) c.args.position) _ _ c.partition_point.ensures.partitioned parted (λ a r q k. search rules) in
    (covers group_start group_size c.requires.at _ c.args.position _ c.requires.starts c.requires.low c.requires.high point c.partition_point.ensures.bound).1
