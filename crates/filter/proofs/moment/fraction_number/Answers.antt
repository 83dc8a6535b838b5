use Rattle.std.proofs.Common.{◌≡◌, ◌<◌, subst, sym}
use Rattle.std.specs.Str.Parse.{digits_value}
use Rattle.filter.proofs.Moments.{fraction_read, fraction_small, ok_same}
use Rattle.filter.proofs.moment.fraction_number.Goals as goal

pub unreachable-requires : goal.unreachable-requires
unreachable-requires c =
    c.in_default.not-Ok (digits_value 10 c.args.digits.now)
    (fraction_read c.args.digits.now c.parse.result (rw c.ascii_text.ensures at c.parse.ensures.value.0) c.requires.digits c.requires.size.0 c.requires.size.1)

pub returns-clause-most : goal.returns-clause-most
returns-clause-most c =
    let is = fraction_read c.args.digits.now c.parse.result (rw c.ascii_text.ensures at c.parse.ensures.value.0) c.requires.digits c.requires.size.0 c.requires.size.1 in
    let same : c.in-Ok.n ≡ digits_value 10 c.args.digits.now = ok_same c.parse.result c.in-Ok.n (digits_value 10 c.args.digits.now) c.in-Ok.is is in
    subst (λ n. n < 1_000_000) (sym same) (fraction_small c.args.digits.now c.requires.digits c.requires.size.1)
