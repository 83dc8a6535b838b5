-- The fields of names that are all known are made for the schema.
use Rattle.std.proofs.Common.{sym}
use Rattle.column_types.proofs.FieldLemmas.{IsMadeFor-named}
use Rattle.column_types.proofs.fields.Fields.of.Goals as goal

pub returns-clause-made : goal.returns-clause-made
returns-clause-made c =
    rw (c.in_ok-numbers.ensures, c.columns-columns.ensures.value)
    (IsMadeFor-named c.args.schema.now c.args.names.now
    (rw c.columns-columns.ensures.value at c.columns-columns.ensures.is_schema.some)
    (rw c.columns-columns.ensures.value at (sym c.in_default.ensures)))
