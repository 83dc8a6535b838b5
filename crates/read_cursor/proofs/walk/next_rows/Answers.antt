-- One more row is copied.
use Rattle.std.proofs.Common.{◌≡◌, ◌+◌, List, [], ◌∷◌, ◌++◌, get_or, ap, ◌∙◌, arith}
use Rattle.column_types.specs.declared.cell.Cell.{Cell}
use Rattle.column_types.specs.Fields.{projected}
use Rattle.row_groups.specs.Places.{group_at}
use Rattle.read_cursor.proofs.GiveLemmas.{more_given}
use Rattle.read_cursor.proofs.walk.next_rows.Goals as goal

pub loop-alloc-preserved : goal.loop-alloc-preserved
loop-alloc-preserved c =
    let row = c.row-row.result.now in
    let is : c.row-row.result.now ≡ get_or (group_at c.args.lease.now.groups c.in-Row.place.group) c.in-Row.place.place c.row-row.result.now =
    c.row-row.ensures c.row-row.result.now ∙ ap (λ (groups : List (List (List Cell))). get_or (group_at groups c.in-Row.place.group) c.in-Row.place.place c.row-row.result.now) c.spine.ensures.spine in
    let items : c.push.new.self.items ≡ c.loop-alloc.rows.items ++ projected c.args.lease.now.fields c.row-row.result.now ∷ [] =
    c.in_ok-push-in-Row.ensures.items ∙ ap (λ (x : List Cell). c.loop-alloc.rows.items ++ x ∷ [])
    (c.in_ok-project-in-Row.ensures.value ∙ ap (λ fields. projected fields c.row-row.result.now) c.fields.ensures) in
    let more = more_given c.args.lease.now c.in-Row.place (c.args.walk.now.passed + c.args.walk.now.skip) c.loop-alloc.walk c.next_match.new.walk c.loop-alloc.rows.items
    c.push.new.self.items c.row-row.result.now c.in-Row.ensures.finds c.loop-alloc.invariant.at c.loop-alloc.invariant.rows is items in
    record {
      walks = c.in-Row.ensures.walks;
      at = more.0;
      rows = more.1;
      room = more.2;
      short = omega (arith, more.3, c.loop-alloc.rows.ok);
    }
