-- What is told of the look is what the history of its point says.
use mir.Syntax.{w64}
use Rattle.std.proofs.lemmas.Int.{to_z-of_z}
use Rattle.call_read.specs.Items.{told}
use Rattle.call_read.proofs.HeldLemmas.{looked_at, is_of-looked, gets-told, gets-none, loses-looked}
use Rattle.call_read.proofs.bodies.rows_at.Goals as goal

pub told_held-requires : goal.told_held-requires
told_held-requires g c =
    is_of-looked c.args.tables.now c.args.passes c.look-passes.result.0 c.args.node.table _ c.look-passes.result.1 c.spec-spec.result.now c.in-Ok-Some.field-0 c.in-Ok-Some.held
    c.look-passes.ensures.looks c.in-Ok-Some.is c.in-Ok-Some.field-0-is c.spec-spec.ensures

pub returns-in-Ok-Some-clause-gets : goal.returns-in-Ok-Some-clause-gets
returns-in-Ok-Some-clause-gets g c = λ spec there.
    let looked = looked_at c.args.tables.now c.args.passes c.look-passes.result.0 c.args.node.table _ c.look-passes.result.1 spec c.in-Ok-Some.field-0 c.look-passes.ensures.looks c.in-Ok-Some.is there in
    gets-told c.args.tables.now c.args.passes c.look-passes.result.0 c.args.node c.args.offset c.args.now told c.told_held.result spec c.in-Ok-Some.field-0 c.in-Ok-Some.held c.spec-spec.result.now _ _ _ looked c.in-Ok-Some.field-0-is
    (to_z-of_z w64 c.args.offset c.ranges.offset) (to_z-of_z w64 c.args.now c.ranges.now) there c.spec-spec.ensures c.told_held.ensures

pub returns-in-Ok-None-clause-gets : goal.returns-in-Ok-None-clause-gets
returns-in-Ok-None-clause-gets g c = λ spec there.
    let looked = looked_at c.args.tables.now c.args.passes c.look-passes.result.0 c.args.node.table _ c.look-passes.result.1 spec c.in-Ok-None.field-0 c.look-passes.ensures.looks c.in-Ok-None.is there in
    gets-none c.args.tables.now c.args.passes c.look-passes.result.0 c.args.node c.args.offset c.args.now told c.ended_for.result spec c.in-Ok-None.field-0 looked c.in-Ok-None.field-0-is c.ended_for.ensures

pub returns-in-Ok-Some-clause-loses : goal.returns-in-Ok-Some-clause-loses
returns-in-Ok-Some-clause-loses g c = λ spec there.
    let looked = looked_at c.args.tables.now c.args.passes c.look-passes.result.0 c.args.node.table _ c.look-passes.result.1 spec c.in-Ok-Some.field-0 c.look-passes.ensures.looks c.in-Ok-Some.is there in
    loses-looked c.args.tables.now c.args.passes c.look-passes.result.0 c.args.node c.args.offset c.args.now told c.told_held.result spec c.in-Ok-Some.field-0 looked

pub returns-in-Ok-None-clause-loses : goal.returns-in-Ok-None-clause-loses
returns-in-Ok-None-clause-loses g c = λ spec there.
    let looked = looked_at c.args.tables.now c.args.passes c.look-passes.result.0 c.args.node.table _ c.look-passes.result.1 spec c.in-Ok-None.field-0 c.look-passes.ensures.looks c.in-Ok-None.is there in
    loses-looked c.args.tables.now c.args.passes c.look-passes.result.0 c.args.node c.args.offset c.args.now told c.ended_for.result spec c.in-Ok-None.field-0 looked
