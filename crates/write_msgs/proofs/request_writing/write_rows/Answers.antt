-- All rows are written.
use Rattle.std.proofs.Common.{◌∙◌, arith}
use Rattle.write_msgs.specs.declared.numbers.TheConstants.{SERIALIZED_ROWS}
use Rattle.write_msgs.specs.RequestBytes.{proto_rows_bytes}
use Rattle.write_msgs.proofs.WritingLemmas.{items_done}
use Rattle.write_msgs.proofs.request_writing.write_rows.Goals as goal

pub returns : goal.returns
unfolding proto_rows_bytes
returns c =
    c.finish.ensures
    ∙ items_done SERIALIZED_ROWS c.loop-row.row-index c.args.rows.now.serialized_rows c.blobs-row-items.result.now c.loop-row.out c.loop-row.invariant c.blobs-row-items.ensures
    (omega (arith, c.loop-row-test.false))
