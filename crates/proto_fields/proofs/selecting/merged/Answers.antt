use Rattle.std.proofs.Common.{Some, map, is_some, sym, ap, ◌∙◌}
use Rattle.std.specs.List.{concat}
use Rattle.proto_fields.specs.Spans.{part}
use Rattle.proto_fields.proofs.SelectionLemmas.{joined_more, joined_same, merged_of-none, merged_of-payloads_of, length-joined, spans_of-all}
use Rattle.proto_fields.proofs.selecting.merged.Goals as goal
use Rattle.proto_fields.proofs.selecting.merged.Goals.{in-Some-span_for+in_ok-extend_from_slice, in_default-span_for}

pub returns-in_default-clause-bytes : goal.returns-in_default-clause-bytes
returns-in_default-clause-bytes c = sym (merged_of-none c.args.bytes.now c.args.number c.args.fields.now (sym c.size_of_all.ensures ∙ ap is_some c.in_default.is))

pub loop-field-preserved : goal.loop-field-preserved
loop-field-preserved c =
    elim c.match-span_for.branch [
      | in-Some-span_for+in_ok-extend_from_slice w ↦ rw (w.joined-is, w.in_ok-extend_from_slice.ensures.items, w.part.ensures, c.loop-field.invariant) (sym (joined_more c.args.bytes.now c.args.number c.args.fields.now c.loop-field.field-index _ w.in-Some-span_for.span c.loop-field-test.true (sym c.span_for.ensures ∙ w.in-Some-span_for.is)))
      | in_default-span_for w ↦ rw (w.joined-is, c.loop-field.invariant) (sym (joined_same c.args.bytes.now c.args.number c.args.fields.now c.loop-field.field-index _ c.loop-field-test.true (sym c.span_for.ensures ∙ w.in_default-span_for.is)))
    ]

pub returns-clause-bytes : goal.returns-clause-bytes
returns-clause-bytes c =
    ap Some c.from_vec.ensures
    ∙ ap Some (c.loop-field.invariant ∙ ap (λ spans. concat (map (part c.args.bytes.now) spans)) (spans_of-all c.args.number c.loop-field.field-index c.args.fields.now c.loop-field-test.false))
    ∙ sym (merged_of-payloads_of c.args.bytes.now c.args.number c.args.fields.now (sym c.size_of_all.ensures ∙ ap is_some c.in-Some.is))

pub returns-clause-size : goal.returns-clause-size
returns-clause-size c = rw (c.from_vec.ensures, c.loop-field.invariant, spans_of-all c.args.number c.loop-field.field-index c.args.fields.now c.loop-field-test.false) (length-joined c.args.bytes.now c.args.number c.args.fields.now)
