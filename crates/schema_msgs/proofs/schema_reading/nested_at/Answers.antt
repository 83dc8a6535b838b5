-- The fields of each occurrence are read behind the others.
use Rattle.std.proofs.Common.{Ok, sym, ap}
use Rattle.proto_fields.specs.Spans.{part}
use Rattle.write_msgs.specs.Repeated.{items_from}
use Rattle.schema_msgs.specs.Outline.{outline}
use Rattle.schema_msgs.specs.Schema.{gathered, table_field_schema_of}
use Rattle.schema_msgs.specs.Walk.{laid}
use Rattle.schema_msgs.proofs.ReadingLemmas.{nested_more, laid_placeless}
use Rattle.schema_msgs.proofs.schema_reading.nested_at.Goals as goal

pub loop-n-init : goal.loop-n-init
unfolding items_from gathered outline
loop-n-init c = ap Ok (sym c.new.ensures.items)

pub loop-n-preserved : goal.loop-n-preserved
loop-n-preserved c =
    nested_more (part c.args.bytes.now) c.args.places.now c.loop-n.n _ c.occurrence.result.now _ c.loop-n-test.true c.occurrence.ensures.bytes
    (c.with_nested-read.ensures _ (laid 0 (table_field_schema_of c.occurrence.result.now)) c.loop-n.invariant (laid_placeless c.occurrence.result.now _ c.read_nested.ensures))
