use Rattle.std.proofs.Common.{◌≡◌, take, drop, subst, sym, true, ap, ◌∙◌}
use Rattle.std.specs.Char.{is_ascii_digit}
use Rattle.std.specs.Str.{all_ascii_digits}
use Rattle.filter.proofs.Bytes.{digits_front, behind_first, front_of_rest}
use Rattle.filter.proofs.lexer.integer_at.Goals as goal

pub negative_of-requires-clause-digits : goal.negative_of-requires-clause-digits
negative_of-requires-clause-digits c =
    ap all_ascii_digits (behind_first c.digit_len-len.result c.args.bytes.now ∙ front_of_rest is_ascii_digit c.digit_len-len.result c.args.bytes.now c.digit_len-len.ensures.value)
    ∙ digits_front (drop 1 c.args.bytes.now)

pub positive_of-requires : goal.positive_of-requires
positive_of-requires c =
    subst (λ n. all_ascii_digits (take n c.args.bytes.now) ≡ true) (sym c.digit_len-len-2.ensures.value) (digits_front c.args.bytes.now)
