-- One row is passed, and counts where it matches.
use Rattle.std.proofs.Common.{◌≡◌, List, get_or, refl, ap, sym, ◌∙◌, cond, arith}
use Rattle.column_types.specs.declared.cell.Cell.{Cell}
use Rattle.column_types.specs.declared.predicate.Pred.{Pred}
use Rattle.row_groups.specs.Places.{group_at}
use Rattle.read_cursor.specs.Lease.{keeps}
use Rattle.read_cursor.proofs.WalkLemmas.{walks_on, match_here, few_passed, from_is, from_small}
use Rattle.read_cursor.proofs.walk.step.Goals as goal

pub place_behind-walk-requires-clause-few : goal.place_behind-walk-requires-clause-few
place_behind-walk-requires-clause-few c = rw (c.spine-2.ensures.spine, ← c.spine.ensures.spine) c.rows-rows.ensures.few

pub overflow_add-walk : goal.overflow_add-walk
overflow_add-walk c =
    let few = rw c.spine.ensures.spine at c.rows-rows.ensures.few in
    omega (arith, few, c.requires.walks.within)

pub overflow_add-walk-2 : goal.overflow_add-walk-2
overflow_add-walk-2 c =
    let few = rw c.spine.ensures.spine at c.rows-rows.ensures.few in
    let passed = few_passed _ _ _ _ c.requires.walks in
    let one = from_small _ _ c.from.ensures in
    omega (arith, few, passed, one, c.requires.walks.within, c.requires.more)

pub returns-clause-steps : goal.returns-clause-steps
returns-clause-steps c =
    let x : List Cell = c.index-rows-place.result in
    let rows : c.rows-rows.result.now ≡ group_at c.args.lease.now.groups c.args.walk.now.place.group =
    c.rows-rows.ensures.rows ∙ ap (λ (groups : List (List (List Cell))). group_at groups c.args.walk.now.place.group) c.spine.ensures.spine in
    let is : x ≡ get_or (group_at c.args.lease.now.groups c.args.walk.now.place.group) c.args.walk.now.place.place x =
    c.index-rows-place.is ∙ ap (λ (rows : List (List Cell)). get_or rows c.args.walk.now.place.place x) rows in
    let kept : c.is_kept-is_match.result ≡ keeps c.args.lease.now.pred x = c.is_kept-is_match.ensures ∙ ap (λ (pred : Pred). keeps pred x) c.pred.ensures in
    let walks = walks_on c.args.lease.now c.args.walk.now.position c.args.walk.now.place c.place_behind-walk.result c.args.walk.now.passed c.is_kept-is_match.result x
    c.requires.walks c.requires.more is kept (rw c.spine-2.ensures.spine at c.place_behind-walk.ensures) in
    let count : c.from.result ≡ cond c.is_kept-is_match.result 1 0 = c.from.ensures ∙ from_is c.is_kept-is_match.result in
    record { walks = rw count walks; on = refl; passed = rw count refl; skip = refl }

pub returns-clause-row : goal.returns-clause-row
returns-clause-row c = λ e.
    let x : List Cell = c.index-rows-place.result in
    let rows : c.rows-rows.result.now ≡ group_at c.args.lease.now.groups c.args.walk.now.place.group =
    c.rows-rows.ensures.rows ∙ ap (λ (groups : List (List (List Cell))). group_at groups c.args.walk.now.place.group) c.spine.ensures.spine in
    let is : x ≡ get_or (group_at c.args.lease.now.groups c.args.walk.now.place.group) c.args.walk.now.place.place x =
    c.index-rows-place.is ∙ ap (λ (rows : List (List Cell)). get_or rows c.args.walk.now.place.place x) rows in
    let kept : c.is_kept-is_match.result ≡ keeps c.args.lease.now.pred x = c.is_kept-is_match.ensures ∙ ap (λ (pred : Pred). keeps pred x) c.pred.ensures in
    match_here c.args.lease.now c.args.walk.now.position c.args.walk.now.place c.args.walk.now.passed x c.requires.walks c.requires.more is (sym kept ∙ e)
