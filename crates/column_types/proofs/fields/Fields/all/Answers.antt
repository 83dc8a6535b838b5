use Rattle.column_types.proofs.FieldLemmas.{IsMadeFor-all}
use Rattle.column_types.proofs.fields.Fields.all.Goals as goal

pub returns-clause-made : goal.returns-clause-made
returns-clause-made c =
    rw (c.in_ok-numbers.ensures, c.columns-columns.ensures.value)
    (IsMadeFor-all _ (rw c.columns-columns.ensures.value at c.columns-columns.ensures.is_schema.some))
