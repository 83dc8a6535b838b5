-- The parts, one behind another.
use Rattle.std.proofs.Common.{FitsSigned}
use Rattle.std.specs.Int.{w64}
use Rattle.std.proofs.lemmas.Int.{to_z-of_z}
use Rattle.write_msgs.proofs.ReadBack.{wider}
use Rattle.schema_msgs.proofs.BytesLemmas.{own_written}
use Rattle.schema_msgs.proofs.schema_writing.put_own.Goals as goal

pub returns : goal.returns
returns c =
    let column_type = c.ranges.column_type in
    let mode = c.ranges.mode in
    let wide : FitsSigned w64 c.args.column_type = wider c.args.column_type column_type in
    let wide_mode : FitsSigned w64 c.args.mode = wider c.args.mode mode in
    own_written c.args.name.now c.args.column_type c.args.mode c.args.out.now _ _ _ c.in_ok-put_text.ensures (simp to_z-of_z at c.in_ok-put_int.ensures) (simp to_z-of_z at c.in_ok-put_int-2.ensures)
