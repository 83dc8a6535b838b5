-- Each text is read behind the others.
use Rattle.std.proofs.Common.{Ok, sym, ap}
use Rattle.proto_fields.specs.Spans.{part}
use Rattle.write_msgs.specs.Commits.{text_item}
use Rattle.write_msgs.specs.Repeated.{items_from}
use Rattle.write_msgs.proofs.RepeatedLemmas.{items_read}
use Rattle.read_msgs.proofs.reading.texts_at.Goals as goal

pub loop-n-init : goal.loop-n-init
unfolding items_from
loop-n-init c = ap Ok (sym c.new.ensures.items)

pub loop-n-preserved : goal.loop-n-preserved
loop-n-preserved c =
    items_read (text_item c.args.number) (part c.args.bytes.now) c.args.spans.now c.loop-n.n _ c.occurrence.result.now _ c.loop-n-test.true c.occurrence.ensures.bytes
    (c.with_item-read.ensures _ _ c.loop-n.invariant c.text_of.ensures)
