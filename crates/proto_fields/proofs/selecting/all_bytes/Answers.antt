use Rattle.std.proofs.Common.{sym, ◌∙◌}
use Rattle.proto_fields.specs.Spans.{span_for}
use Rattle.proto_fields.proofs.SelectionLemmas.{filter_map-none, filter_map-some, payloads_of-records_in, spans_of-all, All-spans_of}
use Rattle.proto_fields.proofs.selecting.all_bytes.Goals as goal
use Rattle.proto_fields.proofs.selecting.all_bytes.Goals.{in-Some+in_ok-push, in_default}

pub loop-field-preserved : goal.loop-field-preserved
loop-field-preserved c =
    elim c.match-span_for.branch [
      | in-Some+in_ok-push w ↦ rw (w.all-is, w.in_ok-push.ensures.items, c.loop-field.invariant) (sym (filter_map-some (span_for c.args.number) c.args.fields.now c.loop-field.field-index _ w.in-Some.span c.loop-field-test.true (sym c.span_for.ensures ∙ w.in-Some.is)))
      | in_default w ↦ rw (w.all-is, c.loop-field.invariant) (sym (filter_map-none (span_for c.args.number) c.args.fields.now c.loop-field.field-index _ c.loop-field-test.true (sym c.span_for.ensures ∙ w.in_default.is)))
    ]

pub returns-clause-bytes : goal.returns-clause-bytes
returns-clause-bytes c bytes = rw (c.loop-field.invariant, spans_of-all c.args.number c.loop-field.field-index c.args.fields.now c.loop-field-test.false) (sym (payloads_of-records_in bytes c.args.number c.args.fields.now))

pub returns-clause-within : goal.returns-clause-within
returns-clause-within c size within = rw (c.loop-field.invariant, spans_of-all c.args.number c.loop-field.field-index c.args.fields.now c.loop-field-test.false) (All-spans_of size c.args.number c.args.fields.now within)
