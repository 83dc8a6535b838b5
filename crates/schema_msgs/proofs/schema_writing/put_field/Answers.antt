-- What stands in front, and then the field itself.
use Rattle.std.proofs.Common.{rules, FitsSigned}
use Rattle.std.specs.Int.{w32}
use Rattle.std.proofs.lemmas.Int.{to_z-of_z}
use Rattle.schema_msgs.proofs.BytesLemmas.{field_written}
use Rattle.schema_msgs.proofs.schema_writing.put_field.Goals as goal

pub returns : goal.returns
returns c =
    let column_type : FitsSigned w32 c.args.field.now.column_type = search rules in
    let mode : FitsSigned w32 c.args.field.now.mode = search rules in
    field_written c.args.out.now _ _ _ _ (rw c.number_at.ensures.number at c.in_ok-head.ensures.ok) (simp to_z-of_z at c.in_ok-put_own.ensures)
