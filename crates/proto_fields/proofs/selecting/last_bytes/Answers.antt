use Rattle.std.proofs.Common.{sym, ap, ◌∙◌}
use Rattle.proto_fields.specs.Spans.{span_for}
use Rattle.proto_fields.specs.Selection.{last_of}
use Rattle.proto_fields.proofs.SelectionLemmas.{filter_map-none, last_of-filter_map-some, last_payload, spans_of-all, IfSome-last_of-spans_of}
use Rattle.proto_fields.proofs.selecting.last_bytes.Goals as goal
use Rattle.proto_fields.proofs.selecting.last_bytes.Goals.{in-Some, in_default}

pub loop-field-preserved : goal.loop-field-preserved
loop-field-preserved c =
    elim c.match-span_for.branch [
      | in-Some w ↦ w.last-is ∙ sym (last_of-filter_map-some (span_for c.args.number) c.args.fields.now c.loop-field.field-index _ w.in-Some.span c.loop-field-test.true (sym c.span_for.ensures ∙ w.in-Some.is))
      | in_default w ↦ w.last-is ∙ c.loop-field.invariant ∙ sym (ap last_of (filter_map-none (span_for c.args.number) c.args.fields.now c.loop-field.field-index _ c.loop-field-test.true (sym c.span_for.ensures ∙ w.in_default.is)))
    ]

pub returns-clause-bytes : goal.returns-clause-bytes
returns-clause-bytes c bytes = last_payload bytes c.args.number c.args.fields.now c.loop-field.last (c.loop-field.invariant ∙ ap last_of (spans_of-all c.args.number c.loop-field.field-index c.args.fields.now c.loop-field-test.false))

pub returns-clause-within : goal.returns-clause-within
returns-clause-within c size within = rw (c.loop-field.invariant, spans_of-all c.args.number c.loop-field.field-index c.args.fields.now c.loop-field-test.false) (IfSome-last_of-spans_of size c.args.number c.args.fields.now within)
