-- Each entry shows its rows, and all together show no more than fit.
use mir.Syntax.{w64}
use Rattle.std.proofs.Common.{ap, length, ◌∙◌, arith}
use Rattle.std.proofs.lemmas.Int.{to_z-of_z}
use Rattle.table_model.specs.Sessions.{accepted_by}
use Rattle.table_model.proofs.VisibleWalkLemmas.{end_front, visible_first, visible_more, visible_room}
use Rattle.table_model.proofs.visible_walks.visible_by.Goals as goal

pub shown-count-requires-clause-ends : goal.shown-count-requires-clause-ends
shown-count-requires-clause-ends c = λ on. end_front c.args.entries.now c.loop-i.i on 18446744073709551616 (c.requires.ends on)

pub shown-count-requires-clause-few : goal.shown-count-requires-clause-few
shown-count-requires-clause-few c =
    let within = c.accepted_by-i-end.ensures.within in
    let room = visible_room c.args.entries.now c.loop-i.i c.index-entries-i.result 18446744073709551616 (omega (arith, c.loop-i-test.true, within)) c.requires.shown in
    omega (arith, room)

pub overflow_add-count : goal.overflow_add-count
overflow_add-count c =
    let within = c.accepted_by-i-end.ensures.within in
    let room = visible_room c.args.entries.now c.loop-i.i c.index-entries-i.result 18446744073709551616 (omega (arith, c.loop-i-test.true, within)) c.requires.shown in
    omega (arith, room, c.shown-count.ensures, c.loop-i.invariant)

pub loop-i-preserved : goal.loop-i-preserved
loop-i-preserved c =
    let within = c.accepted_by-i-end.ensures.within in
    let more = visible_more c.args.entries.now c.loop-i.i c.index-entries-i.result (omega (arith, c.loop-i-test.true, within)) in
    omega (arith, more, c.shown-count.ensures, c.loop-i.invariant)

pub returns : goal.returns
returns c =
    let exact = to_z-of_z w64 c.args.moment c.ranges.moment in
    visible_first c.args.entries.now c.args.moment c.loop-i.count c.loop-i.i c.accepted_by-i-end.result c.requires.rises
    (c.accepted_by-i-end.ensures.value ∙ ap (λ m. length (accepted_by c.args.entries.now m)) exact)
    c.loop-i.auto.i-end c.loop-i-test.false c.loop-i.invariant
