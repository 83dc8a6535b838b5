use Rattle.std.proofs.Common.{◌≡◌, ◌∙◌, sym, true}
use Rattle.std.specs.Str.{all_ascii_digits}
use Rattle.filter.proofs.Moments.{all_digits, number_read, number_small}
use Rattle.filter.proofs.moment.digits_number.Goals as goal

pub returns-clause-value : goal.returns-clause-value
returns-clause-value c =
    let e : all_ascii_digits c.args.digits.now ≡ true = sym (all_digits c.args.digits.now) ∙ sym c.are_digits.ensures ∙ c.if-not-are_digits.false in
    c.ok.ensures.value ∙ number_read c.args.digits.now c.parse.result (rw c.ascii_text.ensures at c.parse.ensures.value.0) e c.requires.0 c.requires.1

pub returns-clause-small : goal.returns-clause-small
returns-clause-small c =
    let e : all_ascii_digits c.args.digits.now ≡ true = sym (all_digits c.args.digits.now) ∙ sym c.are_digits.ensures ∙ c.if-not-are_digits.false in
    number_small c.args.digits.now c.ok.result
    (c.ok.ensures.value ∙ number_read c.args.digits.now c.parse.result (rw c.ascii_text.ensures at c.parse.ensures.value.0) e c.requires.0 c.requires.1) e
