use Rattle.std.proofs.Common.{sym, ap, ◌∙◌}
use Rattle.row_descriptor.proofs.BindingLemmas.{binding_of-extra, binding_of-misfit, binding_of-missing, binding_of-bound, IsBoundTo-bound, IsBinding-bound}
use Rattle.row_descriptor.proofs.bound.bind.Goals as goal

pub returns-in-Some-clause-value : goal.returns-in-Some-clause-value
returns-in-Some-clause-value c =
    let e = binding_of-extra c.fields-fields.result.now c.columns-columns.result.now c.in-Some.field.now (sym c.in-Some.ensures) in
    rw (c.in_ok-of.ensures, c.text.ensures, ← c.fields-fields.ensures.value, ← c.columns-columns.ensures.value) e

pub returns-in-Some-first_misfit-clause-value : goal.returns-in-Some-first_misfit-clause-value
returns-in-Some-first_misfit-clause-value c =
    let e = binding_of-misfit c.fields-fields.result.now c.columns-columns.result.now c.in-Some-first_misfit.field.now (sym c.in_default.ensures) (sym c.in-Some-first_misfit.ensures) in
    rw (c.in_ok-of-2.ensures, c.text-in-Some-first_misfit.ensures, ← c.fields-fields.ensures.value, ← c.columns-columns.ensures.value) e

pub returns-in-Some-first_missing-clause-value : goal.returns-in-Some-first_missing-clause-value
returns-in-Some-first_missing-clause-value c =
    let e = binding_of-missing c.fields-fields.result.now c.columns-columns.result.now c.in-Some-first_missing.column.now (sym c.in_default.ensures) (sym c.in_default-first_misfit.ensures) (sym c.in-Some-first_missing.ensures) in
    rw (c.in_ok-of-3.ensures, c.text-in-Some-first_missing.ensures, ← c.fields-fields.ensures.value, ← c.columns-columns.ensures.value) e

pub returns-clause-value : goal.returns-clause-value
returns-clause-value c =
    let e = binding_of-bound c.fields-fields.result.now c.columns-columns.result.now (sym c.in_default.ensures) (sym c.in_default-first_misfit.ensures) (sym c.in_default-first_missing.ensures) in
    rw (c.in_ok-columns.ensures, ← c.fields-fields.ensures.value, ← c.columns-columns.ensures.value) e

pub returns-clause-bound : goal.returns-clause-bound
returns-clause-bound c = rw (c.in_ok-columns.ensures, ← c.columns-columns.ensures.value) (IsBoundTo-bound c.fields-fields.result.now c.columns-columns.result.now)

pub invariant_of-result : goal.invariant_of-result
invariant_of-result c = rw c.in_ok-columns.ensures (IsBinding-bound c.fields-fields.result.now c.columns-columns.result.now c.fields-fields.ensures.good c.columns-columns.ensures.is_schema)
