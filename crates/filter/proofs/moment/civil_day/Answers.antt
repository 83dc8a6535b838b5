use Rattle.std.proofs.Common.{◌≡◌, ℕ, ℤ, pos, w16, w8, w32, to_z, of_z, FitsSigned, sym, ◌∙◌, ap, arith}
use Rattle.std.proofs.lemmas.Int.{ints, to_z-of_z}
use Rattle.filter.proofs.Moments.{civil_ok}
use Rattle.filter.proofs.moment.civil_day.Goals as goal

pub returns-clause-value : goal.returns-clause-value
returns-clause-value c =
    let year : to_z w16 c.args.year ≡ pos c.args.year = omega (arith, ints) in
    let month : to_z w8 c.args.month ≡ pos c.args.month = omega (arith, ints) in
    let day : to_z w8 c.args.day ≡ pos c.args.day = omega (arith, ints) in
    let back : to_z w32 (of_z w32 c.day_number.result) ≡ c.day_number.result = omega (arith, ints) in
    civil_ok c.args.year c.args.month c.args.day (to_z w16 c.args.year) (to_z w8 c.args.month) (to_z w8 c.args.day) c.new.result c.in_ok-date.date
    (to_z w32 (of_z w32 c.day_number.result)) year month day c.if-year-eq0.false c.new.ensures.succeeds.0 c.new.ensures.value
    (sym c.ok.ensures.value ∙ c.in_ok-date.was) (back ∙ c.day_number.ensures.value)
