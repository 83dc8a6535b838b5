-- The place that the two searches find is that of the position.
use Rattle.std.proofs.Common.{◌≡◌, ◌+◌, List, length, get_or, arith, subst, ap, ◌∙◌}
use Rattle.row_groups.specs.Kept.{PlacedGroup, group_start, group_size, groups_of}
use Rattle.row_groups.specs.Starts.{Covers}
use Rattle.row_groups.proofs.KeptLemmas.{among_last, place_last, place_full, below_last, below_full}
use Rattle.row_groups.proofs.spine.Spine.find.Goals as goal

pub place_with-number-requires : goal.place_with-number-requires
place_with-number-requires c =
    rw c.as_slice.ensures.value (among_last _ _ _ _ c.self.invariant c.args.position c.if-self-position.true (omega arith))

pub overflow_mul-before : goal.overflow_mul-before
overflow_mul-before c =
    let covers : Covers group_start group_size c.self.inside.last.items c.args.position c.place_with-number.result.0 = rw c.as_slice.ensures.value at c.place_with-number.ensures.covers in
    let below = below_last _ _ _ _ c.self.invariant c.args.position c.place_with-number.result.0 covers in
    omega (arith, below, c.self.inside.full.ok)

pub overflow_add-result : goal.overflow_add-result
overflow_add-result c =
    let covers : Covers group_start group_size c.self.inside.last.items c.args.position c.place_with-number.result.0 = rw c.as_slice.ensures.value at c.place_with-number.ensures.covers in
    let below = below_last _ _ _ _ c.self.invariant c.args.position c.place_with-number.result.0 covers in
    omega (arith, below, c.self.inside.full.ok)

pub overflow_cast-result : goal.overflow_cast-result
overflow_cast-result c =
    let covers : Covers group_start group_size c.self.inside.last.items c.args.position c.place_with-number.result.0 = rw c.as_slice.ensures.value at c.place_with-number.ensures.covers in
    let below = below_last _ _ _ _ c.self.invariant c.args.position c.place_with-number.result.0 covers in
    omega (arith, below, c.self.inside.full.ok)

pub returns-then-self-position : goal.returns-then-self-position
returns-then-self-position c =
    let covers : Covers group_start group_size c.self.inside.last.items c.args.position c.place_with-number.result.0 = rw c.as_slice.ensures.value at c.place_with-number.ensures.covers in
    let count : c.len-before.result ≡ length c.self.inside.full.items = omega (arith, c.self.inside.full.ok) in
    let place = place_last _ _ _ _ c.self.invariant c.args.position c.place_with-number.result.0 c.place_with-number.result.1 covers
    (λ d. rw c.as_slice.ensures.value at (c.place_with-number.ensures.place d)) in
    rw (← c.self.view_is, count) place

pub overflow_mul-before-2 : goal.overflow_mul-before-2
overflow_mul-before-2 c =
    let same : c.groups.result.now ≡ groups_of (get_or c.self.inside.full.items c.block_with-block.result c.index.result.now) = c.groups.ensures ∙ ap groups_of c.index.ensures in
    let covers : Covers group_start group_size (groups_of (get_or c.self.inside.full.items c.block_with-block.result c.index.result.now)) c.args.position c.place_with-number-2.result.0 =
    subst (λ (groups : List PlacedGroup). Covers group_start group_size groups c.args.position c.place_with-number-2.result.0) same c.place_with-number-2.ensures.covers in
    let below = below_full _ _ _ _ c.self.invariant c.args.position c.block_with-block.result c.place_with-number-2.result.0 c.index.result.now (rw c.as_slice-2.ensures.value at c.block_with-block.ensures.within) covers in
    omega (arith, below)

pub overflow_add-result-2 : goal.overflow_add-result-2
overflow_add-result-2 c =
    let same : c.groups.result.now ≡ groups_of (get_or c.self.inside.full.items c.block_with-block.result c.index.result.now) = c.groups.ensures ∙ ap groups_of c.index.ensures in
    let covers : Covers group_start group_size (groups_of (get_or c.self.inside.full.items c.block_with-block.result c.index.result.now)) c.args.position c.place_with-number-2.result.0 =
    subst (λ (groups : List PlacedGroup). Covers group_start group_size groups c.args.position c.place_with-number-2.result.0) same c.place_with-number-2.ensures.covers in
    let below = below_full _ _ _ _ c.self.invariant c.args.position c.block_with-block.result c.place_with-number-2.result.0 c.index.result.now (rw c.as_slice-2.ensures.value at c.block_with-block.ensures.within) covers in
    omega (arith, below)

pub overflow_cast-result-2 : goal.overflow_cast-result-2
overflow_cast-result-2 c =
    let same : c.groups.result.now ≡ groups_of (get_or c.self.inside.full.items c.block_with-block.result c.index.result.now) = c.groups.ensures ∙ ap groups_of c.index.ensures in
    let covers : Covers group_start group_size (groups_of (get_or c.self.inside.full.items c.block_with-block.result c.index.result.now)) c.args.position c.place_with-number-2.result.0 =
    subst (λ (groups : List PlacedGroup). Covers group_start group_size groups c.args.position c.place_with-number-2.result.0) same c.place_with-number-2.ensures.covers in
    let below = below_full _ _ _ _ c.self.invariant c.args.position c.block_with-block.result c.place_with-number-2.result.0 c.index.result.now (rw c.as_slice-2.ensures.value at c.block_with-block.ensures.within) covers in
    omega (arith, below)

pub returns : goal.returns
returns c =
    let same : c.groups.result.now ≡ groups_of (get_or c.self.inside.full.items c.block_with-block.result c.index.result.now) = c.groups.ensures ∙ ap groups_of c.index.ensures in
    let covers : Covers group_start group_size (groups_of (get_or c.self.inside.full.items c.block_with-block.result c.index.result.now)) c.args.position c.place_with-number-2.result.0 =
    subst (λ (groups : List PlacedGroup). Covers group_start group_size groups c.args.position c.place_with-number-2.result.0) same c.place_with-number-2.ensures.covers in
    let place = place_full _ _ _ _ c.self.invariant c.args.position c.block_with-block.result c.place_with-number-2.result.0 c.place_with-number-2.result.1 c.index.result.now
    (rw c.as_slice-2.ensures.value at c.block_with-block.ensures.within) covers
    (λ d. subst (λ (groups : List PlacedGroup). group_start (get_or groups c.place_with-number-2.result.0 d) + c.place_with-number-2.result.1 ≡ c.args.position) same (c.place_with-number-2.ensures.place d)) in
    rw (← c.self.view_is) place
