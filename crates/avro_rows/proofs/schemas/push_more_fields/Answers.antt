-- One field more.
use Rattle.std.proofs.Common.{string_bytes}
use Rattle.avro_rows.proofs.SchemaLemmas.{push-field}
use Rattle.avro_rows.proofs.schemas.push_more_fields.Goals as goal

pub loop-number-preserved : goal.loop-number-preserved
loop-number-preserved c =
    push-field c.args.columns.now c.args.numbers.now c.loop-number.number-index c.index-columns-number.result (string_bytes c.loop-number.out) (string_bytes c.push_text.new.out)
    (string_bytes c.push_field.new.out) _ c.loop-number-test.true c.requires.within c.index-columns-number.is c.in_ok-push_text.ensures c.in_ok-push_field.ensures c.loop-number.invariant
