use Rattle.std.proofs.Common.{◌≡◌, sym, ap, ◌∙◌, map, Some}
use Rattle.proto_fields.specs.Spans.{part, records_in}
use Rattle.proto_fields.specs.Selection.{payloads_of}
use Rattle.row_descriptor.specs.Descriptor.{field_of, all_of, are_descriptor}
use Rattle.row_descriptor.proofs.DescriptorLemmas.{fields_in-read, if_both, if_not_first, if_not_second}
use Rattle.row_descriptor.proofs.descriptor.described_fields.Goals as goal
use Rattle.row_descriptor.proofs.descriptor.described_fields.Goals.{else-has_good_name-via-then-has_good_name+in_ok-are_good+else-branch, else-has_good_name-via-else-has_good_name}

pub returns-then-branch-clause-value : goal.returns-then-branch-clause-value
returns-then-branch-clause-value c =
    let read : all_of (map field_of (payloads_of 2 (records_in c.args.bytes.now c.args.records.now))) ≡ Some c.in_ok-found.found.items =
    ap (λ payloads. all_of (map field_of payloads)) (sym (c.in_ok-spans.ensures.bytes c.args.bytes.now))
    ∙ ap (λ spans. all_of (map field_of (map (part c.args.bytes.now) spans))) (sym c.deref.ensures.value) ∙ c.in_ok-found.ensures in
    fields_in-read (records_in c.args.bytes.now c.args.records.now) c.in_ok-found.found.items read
    ∙ if_both _ _ _ (sym c.has_good_name.ensures ∙ c.if-has_good_name.true) (ap are_descriptor (sym c.deref-then-has_good_name.ensures.value) ∙ sym c.in_ok-are_good.ensures ∙ c.if-branch.true)

pub returns-clause-value : goal.returns-clause-value
returns-clause-value c =
    let read : all_of (map field_of (payloads_of 2 (records_in c.args.bytes.now c.args.records.now))) ≡ Some c.in_ok-found.found.items =
    ap (λ payloads. all_of (map field_of payloads)) (sym (c.in_ok-spans.ensures.bytes c.args.bytes.now))
    ∙ ap (λ spans. all_of (map field_of (map (part c.args.bytes.now) spans))) (sym c.deref.ensures.value) ∙ c.in_ok-found.ensures in
    fields_in-read (records_in c.args.bytes.now c.args.records.now) c.in_ok-found.found.items read
    ∙ elim c.else-has_good_name.branch [
      | else-has_good_name-via-then-has_good_name+in_ok-are_good+else-branch w ↦ if_not_second _ _ _ (ap are_descriptor (sym w.deref-then-has_good_name.ensures.value) ∙ sym w.in_ok-are_good.ensures ∙ w.if-branch.false)
      | else-has_good_name-via-else-has_good_name w ↦ if_not_first _ _ _ (sym c.has_good_name.ensures ∙ w.if-has_good_name.false)
    ]
