-- A text more names a write stream, or none.
use Rattle.std.proofs.Common.{[], ◌∷◌, ◌++◌, sym, ap, ◌∙◌}
use Rattle.resource_names.specs.Write.{write_name_of}
use Rattle.call_read.proofs.StreamLemmas.{none_named, one_read}
use Rattle.call_read.proofs.streams.streams_of.Goals as goal

pub returns-in_default : goal.returns-in_default
returns-in_default c =
    none_named c.args.texts.now c.loop-text.text-index c.text-item.result c.loop-text-test.true c.text-item.is
    (ap write_name_of (sym c.text.ensures) ∙ sym c.in_ok-name.ensures ∙ c.in_default.is)

pub loop-text-preserved : goal.loop-text-preserved
loop-text-preserved c =
    one_read c.args.table.now c.args.texts.now c.loop-text.text-index c.text-item.result c.in-Some.name c.loop-text.refs.items _ c.loop-text.has_other_table _
    c.loop-text-test.true c.text-item.is (ap write_name_of (sym c.text.ensures) ∙ sym c.in_ok-name.ensures ∙ c.in-Some.is) c.loop-text.invariant
    (c.in_ok-push.ensures.items ∙ ap (λ ref. c.loop-text.refs.items ++ ref ∷ []) c.ref_of.ensures) c.or_other-has_other_table.ensures
