-- The search stops behind the last snapshot that isn't later.
use Rattle.std.proofs.Common.{◌≡◌, ◌-◌, slice_index_or, true, false, sym, ap, ◌∙◌, subst, rules}
use Rattle.std.specs.Prelude.{int_le}
use Rattle.std.specs.List.Sorted.{IsPartitionPoint}
use Rattle.std.proofs.lemmas.List.Sorted.{IsPartitionPoint-from_clause}
use Rattle.read_sessions.specs.Snapshots.{Rise, visible_at}
use Rattle.read_sessions.proofs.SnapshotLemmas.{parted, none_early, some_early}
use Rattle.read_sessions.proofs.snapshots.Snapshots.visible_by.Goals as goal

pub returns-then-count-eq0 : goal.returns-then-count-eq0
returns-then-count-eq0 c =
    let rise : Rise c.as_slice.result.now = subst Rise (sym c.as_slice.ensures.value) c.self.invariant in
    let point : IsPartitionPoint (λ s. int_le s.moment c.args.moment ≡ true) (λ s. int_le s.moment c.args.moment ≡ false) c.as_slice.result.now c.partition_point-count.result =
    IsPartitionPoint-from_clause (λ s. int_le s.moment c.args.moment) c.as_slice.result.now c.partition_point-count.result c.partition_point-count.ensures.partitioned (parted c.as_slice.result.now c.args.moment rise) (λ a r q k. search rules) in
    none_early c.as_slice.result.now c.args.moment c.partition_point-count.result c.if-count-eq0.true point.1
    ∙ ap (λ snapshots. visible_at snapshots c.args.moment) (c.as_slice.ensures.value ∙ ap (λ kept. kept.list) c.self.view_is)

pub returns : goal.returns
returns c =
    let rise : Rise c.as_slice.result.now = subst Rise (sym c.as_slice.ensures.value) c.self.invariant in
    let point : IsPartitionPoint (λ s. int_le s.moment c.args.moment ≡ true) (λ s. int_le s.moment c.args.moment ≡ false) c.as_slice.result.now c.partition_point-count.result =
    IsPartitionPoint-from_clause (λ s. int_le s.moment c.args.moment) c.as_slice.result.now c.partition_point-count.result c.partition_point-count.ensures.partitioned (parted c.as_slice.result.now c.args.moment rise) (λ a r q k. search rules) in
    let read = c.index.ensures ∙ ap (λ snapshots. slice_index_or snapshots (c.partition_point-count.result - 1) c.index.result.now) (sym c.as_slice.ensures.value) in
    some_early c.as_slice.result.now c.args.moment c.partition_point-count.result c.index.result.now c.if-count-eq0.false c.partition_point-count.ensures.bound read point.0 point.1
    ∙ ap (λ snapshots. visible_at snapshots c.args.moment) (c.as_slice.ensures.value ∙ ap (λ kept. kept.list) c.self.view_is)
