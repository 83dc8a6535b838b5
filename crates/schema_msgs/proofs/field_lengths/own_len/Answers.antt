-- The parts of a field's message, one behind another.
use Rattle.std.proofs.Common.{rules, FitsSigned}
use Rattle.std.specs.Int.{w32}
use Rattle.std.proofs.lemmas.Int.{to_z-of_z}
use Rattle.schema_msgs.proofs.LengthLemmas.{own_summed}
use Rattle.schema_msgs.proofs.field_lengths.own_len.Goals as goal

pub returns : goal.returns
returns c =
    let column_type : FitsSigned w32 c.args.field.now.column_type = search rules in
    let mode : FitsSigned w32 c.args.field.now.mode = search rules in
    own_summed c.args.field.now c.sum.result _ _ _ c.sum.ensures c.in_ok-text_len.ensures (simp to_z-of_z at c.int_len.ensures.len) (simp to_z-of_z at c.int_len-2.ensures.len)
