use Rattle.std.proofs.Common.{◌≡◌, ◌+◌, ◌-◌, take, drop, ap, ◌∙◌, arith}
use Rattle.std.specs.Char.{is_ascii_digit}
use Rattle.std.specs.Str.{all_ascii_digits}
use Rattle.filter.proofs.Bytes.{digits_front, front_of_rest}
use Rattle.filter.proofs.moment.fraction_at.Goals as goal

pub fraction_number-requires-clause-digits : goal.fraction_number-requires-clause-digits
fraction_number-requires-clause-digits c =
    let same : (1 + c.digit_len-len.result) - 1 ≡ c.digit_len-len.result = omega arith in
    ap (λ n. all_ascii_digits (take n (drop 1 c.args.text.now))) same
    ∙ ap all_ascii_digits (front_of_rest is_ascii_digit c.digit_len-len.result c.args.text.now c.digit_len-len.ensures.value)
    ∙ digits_front (drop 1 c.args.text.now)
