-- What is written and the fields to come are the whole list.
use Rattle.std.proofs.Common.{◌≡◌, ◌++◌, drop, string_bytes}
use Rattle.column_types.specs.Fields.{projected}
use Rattle.avro_rows.specs.SchemaText.{more_fields}
use Rattle.avro_rows.proofs.schemas.push_more_fields.Given as goal

abbrev pub invariant-loop-number : goal.invariant-loop-number
invariant-loop-number l =
    string_bytes l.out ++ more_fields (projected (drop l.number-index l.numbers) l.columns) ≡ string_bytes l.fn.out ++ more_fields (projected l.numbers l.columns)
