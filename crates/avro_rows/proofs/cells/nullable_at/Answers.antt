-- Behind the branch of values stands a value.
use Rattle.avro_rows.proofs.CellLemmas.{reads-behind}
use Rattle.avro_rows.proofs.cells.nullable_at.Goals as goal

pub returns : goal.returns
returns c =
    reads-behind c.args.kind _ c.in-Some.rest.now c.in-Some.branch.now c.in-Some.ensures.cases.0 c.if-branch-ne-VALUE_BRANCH.false c.value_at.result c.value_at.ensures
