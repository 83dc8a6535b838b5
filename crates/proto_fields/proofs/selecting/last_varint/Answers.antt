use Rattle.std.proofs.Common.{sym, ap, ◌∙◌}
use Rattle.proto_fields.specs.Selection.{last_of}
use Rattle.proto_fields.proofs.SelectionLemmas.{varints-none, last_varint-some}
use Rattle.proto_fields.proofs.selecting.last_varint.Goals as goal
use Rattle.proto_fields.proofs.selecting.last_varint.Goals.{in-Some, in_default}

pub loop-field-preserved : goal.loop-field-preserved
loop-field-preserved c bytes =
    elim c.match-varint_for.branch [
      | in-Some w ↦ w.last-is ∙ sym (last_varint-some bytes c.args.number c.args.fields.now c.loop-field.field-index _ w.in-Some.varint c.loop-field-test.true (sym (c.varint_for.ensures bytes) ∙ w.in-Some.is))
      | in_default w ↦ w.last-is ∙ c.loop-field.invariant bytes ∙ sym (ap last_of (varints-none bytes c.args.number c.args.fields.now c.loop-field.field-index _ c.loop-field-test.true (sym (c.varint_for.ensures bytes) ∙ w.in_default.is)))
    ]
