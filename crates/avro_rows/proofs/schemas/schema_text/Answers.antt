-- The head, the fields and the end.
use Rattle.avro_rows.proofs.SchemaLemmas.{text-parts}
use Rattle.avro_rows.proofs.schemas.schema_text.Goals as goal

pub returns : goal.returns
returns c =
    text-parts _ _ _ _ _ _ _ _ c.new-out.ensures.bytes c.in_ok-push_text.ensures (rw (c.numbers.ensures, c.columns.ensures.value) at c.in_ok-push_fields.ensures)
    c.in_ok-push_text-2.ensures c.from_string.ensures
