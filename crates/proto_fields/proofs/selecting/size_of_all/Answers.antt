use Rattle.std.proofs.Common.{is_some, sym, ap, ◌∙◌}
use Rattle.proto_fields.specs.Selection.{last_of}
use Rattle.proto_fields.specs.Spans.{span_for}
use Rattle.proto_fields.proofs.SelectionLemmas.{filter_map-none, last_of-filter_map-some}
use Rattle.proto_fields.proofs.selecting.size_of_all.Goals as goal
use Rattle.proto_fields.proofs.selecting.size_of_all.Goals.{in-Some, in_default}

pub loop-field-preserved : goal.loop-field-preserved
loop-field-preserved c =
    elim c.match-span_for.branch [
      | in-Some w ↦ ap is_some w.size-is ∙ sym (ap is_some (last_of-filter_map-some (span_for c.args.number) c.args.fields.now c.loop-field.field-index _ w.in-Some.span c.loop-field-test.true (sym c.span_for.ensures ∙ w.in-Some.is)))
      | in_default w ↦ ap is_some w.size-is ∙ c.loop-field.invariant ∙ sym (ap (λ spans. is_some (last_of spans)) (filter_map-none (span_for c.args.number) c.args.fields.now c.loop-field.field-index _ c.loop-field-test.true (sym c.span_for.ensures ∙ w.in_default.is)))
    ]
