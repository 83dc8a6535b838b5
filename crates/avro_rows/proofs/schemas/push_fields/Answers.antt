-- The first field, and those behind it.
use Rattle.std.proofs.Common.{string_bytes}
use Rattle.avro_rows.proofs.SchemaLemmas.{push-first}
use Rattle.avro_rows.proofs.schemas.push_fields.Goals as goal

pub returns : goal.returns
returns c =
    push-first c.args.columns.now c.args.numbers.now c.in-Some.more.now c.in-Some.first.now c.index-columns-first.result (string_bytes c.args.out.now)
    (string_bytes c.push_field.new.out) (string_bytes c.push_more_fields.new.out) c.in-Some.ensures.cases.0 c.requires.within c.index-columns-first.is
    c.in_ok-push_field.ensures c.in_ok-push_more_fields.ensures
