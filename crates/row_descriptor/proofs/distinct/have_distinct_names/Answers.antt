use Rattle.std.proofs.Common.{◌≡◌, ℕ, sym, ap, ◌∙◌, List, take, string_bytes}
use Rattle.std.specs.List.{list_any}
use Rattle.std.specs.Str.{str_to_ascii_lowercase, bytes_eq}
use Rattle.std.proofs.lemmas.Cmp.{nat_list_eq_equiv}
use Rattle.std.proofs.lemmas.Map.Text.{btree_set_updates_text}
use Rattle.row_descriptor.specs.Descriptor.{is_same_field_name}
use Rattle.row_descriptor.proofs.DistinctLemmas.{are_distinct-more, are_distinct-again, is_same_field_name-symmetric, was_there, was_new, list_any-more, or_cond}
use Rattle.row_descriptor.proofs.distinct.have_distinct_names.Goals as goal

pub returns-then-not-branch : goal.returns-then-not-branch
returns-then-not-branch c =
    let lowered : string_bytes c.make_ascii_lowercase.new.self ≡ str_to_ascii_lowercase c.field-item.result.name = c.make_ascii_lowercase.ensures.bytes ∙ ap str_to_ascii_lowercase (c.in_ok-name.ensures.ok ∙ c.text.ensures) in
    let seen = c.loop-field.invariant.1 (string_bytes c.make_ascii_lowercase.new.self) in
    sym (are_distinct-again is_same_field_name is_same_field_name-symmetric c.args.fields.now c.loop-field.field-index c.field-item.result c.loop-field-test.true c.field-item.is
    (ap (λ (q : List ℕ). list_any (λ f. bytes_eq q (str_to_ascii_lowercase f.name)) (take c.loop-field.field-index c.args.fields.now)) (sym lowered) ∙ sym seen ∙ was_there _ _ c.in_ok-insert.ensures.added c.if-not-branch.true))

pub loop-field-preserved : goal.loop-field-preserved
loop-field-preserved c =
    let lowered : string_bytes c.make_ascii_lowercase.new.self ≡ str_to_ascii_lowercase c.field-item.result.name = c.make_ascii_lowercase.ensures.bytes ∙ ap str_to_ascii_lowercase (c.in_ok-name.ensures.ok ∙ c.text.ensures) in
    let seen = c.loop-field.invariant.1 (string_bytes c.make_ascii_lowercase.new.self) in (
      are_distinct-more is_same_field_name is_same_field_name-symmetric c.args.fields.now c.loop-field.field-index c.field-item.result c.loop-field-test.true c.field-item.is c.loop-field.invariant.0
          (ap (λ (q : List ℕ). list_any (λ f. bytes_eq q (str_to_ascii_lowercase f.name)) (take c.loop-field.field-index c.args.fields.now)) (sym lowered) ∙ sym seen ∙ was_new _ _ c.in_ok-insert.ensures.added c.if-not-branch.false),
      λ q. btree_set_updates_text (string_bytes c.make_ascii_lowercase.new.self) c.loop-field.seen c.insert.new.self _ c.in_ok-insert.ensures.updates q
          ∙ or_cond (bytes_eq (string_bytes c.make_ascii_lowercase.new.self) q) _ (bytes_eq q (str_to_ascii_lowercase c.field-item.result.name)) _
          (nat_list_eq_equiv.symm (string_bytes c.make_ascii_lowercase.new.self) q ∙ ap (bytes_eq q) lowered) (c.loop-field.invariant.1 q)
          ∙ sym (list_any-more (λ f. bytes_eq q (str_to_ascii_lowercase f.name)) c.args.fields.now c.loop-field.field-index c.field-item.result c.loop-field-test.true c.field-item.is),
    )
