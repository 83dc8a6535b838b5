use Rattle.std.proofs.Common.{ap, sym, Some, ◌∙◌}
use Rattle.std.proofs.lemmas.List.{take_all}
use Rattle.row_decode.proofs.FitsLemmas.{AreRows-fit}
use Rattle.row_decode.proofs.RowLemmas.{slice_get-here}
use Rattle.row_decode.proofs.rows.decode_rows.Goals as goal

pub returns-clause-fits : goal.returns-clause-fits
returns-clause-fits c = λ columns bound. AreRows-fit c.args.binding.now columns c.args.rows.now c.loop-bytes.decoded.items bound (rw (take_all c.loop-bytes.bytes-index c.args.rows.now c.loop-bytes-test.false) at c.loop-bytes.invariant.0)

pub fault_of-requires-clause-bad : goal.fault_of-requires-clause-bad
fault_of-requires-clause-bad c = (
  c.loop-bytes.bytes-index,
  c.bytes.result.now,
  c.loop-bytes-test.true,
  slice_get-here c.args.rows.now c.loop-bytes.bytes-index c.bytes-item.result c.loop-bytes-test.true c.bytes-item.is ∙ ap Some (sym c.bytes.ensures),
  c.in-Err.ensures.value,
)

pub returns-clause-size : goal.returns-clause-size
returns-clause-size c = rw (take_all c.loop-bytes.bytes-index c.args.rows.now c.loop-bytes-test.false) at c.loop-bytes.invariant.1
