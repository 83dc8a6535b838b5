-- The group of a number stands in the block that the number's quotient names, at the remainder.
use Rattle.std.proofs.Common.{◌≡◌, ◌+◌, ◌*◌, ◌<◌, ◌/◌, ◌%◌, ℕ, List, length, get_or, arith, subst, ap, ◌∙◌}
use Rattle.row_groups.specs.Places.{joined, group_at}
use Rattle.row_groups.specs.Kept.{PlacedGroup, groups_of, rows_of, all_rows}
use Rattle.row_groups.proofs.KeptLemmas.{group_full, group_last, in_last}
use Rattle.row_groups.proofs.spine.Spine.rows.Goals as goal

pub index-requires-else-block-len : goal.index-requires-else-block-len
index-requires-else-block-len c =
    let there : c.args.group < length (all_rows c.self.inside.full.items c.self.inside.last.items) = rw c.self.view_is c.requires in
    let last = in_last _ _ _ _ c.self.invariant c.args.group (c.args.group / 256) (c.args.group % 256) there (omega arith) (omega arith) (omega (arith, c.self.inside.full.ok)) in
    omega (arith, last.1, c.self.inside.last.ok)

pub returns-then-block-len-clause-rows : goal.returns-then-block-len-clause-rows
returns-then-block-len-clause-rows c =
    let same : c.groups.result.now ≡ groups_of (get_or c.self.inside.full.items (c.args.group / 256) c.index.result.now) = c.groups.ensures ∙ ap groups_of c.index.ensures in
    let x : PlacedGroup = c.index-groups-number.result in
    let is : x ≡ get_or (groups_of (get_or c.self.inside.full.items (c.args.group / 256) c.index.result.now)) (c.args.group % 256) x =
    c.index-groups-number.is ∙ ap (λ (groups : List PlacedGroup). get_or groups (c.args.group % 256) x) same in
    let found = group_full _ _ _ _ c.self.invariant (c.args.group / 256) (c.args.group % 256) c.index.result.now x (omega (arith, c.self.inside.full.ok)) (omega arith) is in
    let number : (c.args.group / 256) * 256 + c.args.group % 256 ≡ c.args.group = omega arith in
    c.rows.ensures ∙ rw (← c.self.view_is) (subst (λ (n : ℕ). rows_of x ≡ group_at (all_rows c.self.inside.full.items c.self.inside.last.items) n) number found)

pub returns-else-block-len-clause-rows : goal.returns-else-block-len-clause-rows
returns-else-block-len-clause-rows c =
    let there : c.args.group < length (all_rows c.self.inside.full.items c.self.inside.last.items) = rw c.self.view_is c.requires in
    let last = in_last _ _ _ _ c.self.invariant c.args.group (c.args.group / 256) (c.args.group % 256) there (omega arith) (omega arith) (omega (arith, c.self.inside.full.ok)) in
    let x : PlacedGroup = c.index-else-block-len.result.now in
    let found = group_last _ _ _ _ c.self.invariant (c.args.group % 256) x last.1 c.index-else-block-len.ensures in
    let number : length c.self.inside.full.items * 256 + c.args.group % 256 ≡ c.args.group = omega (arith, last.0) in
    c.rows-else-block-len.ensures ∙ rw (← c.self.view_is) (subst (λ (n : ℕ). rows_of x ≡ group_at (all_rows c.self.inside.full.items c.self.inside.last.items) n) number found)

pub returns-then-block-len-clause-few : goal.returns-then-block-len-clause-few
returns-then-block-len-clause-few c =
    let counts : c.self.inside.len ≡ length (joined c.args.self.now) = rw c.self.view_is at c.self.invariant.counts in
    omega (arith, c.self.invariant.small)

pub returns-else-block-len-clause-few : goal.returns-else-block-len-clause-few
returns-else-block-len-clause-few c =
    let counts : c.self.inside.len ≡ length (joined c.args.self.now) = rw c.self.view_is at c.self.invariant.counts in
    omega (arith, c.self.invariant.small)
