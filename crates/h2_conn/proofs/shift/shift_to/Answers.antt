-- The change is small, and every sum is a window.
use Rattle.std.proofs.Common.{◌≡◌, ◌-ℤ◌, pos, ℤ, Err, to_z, of_z, w64, sym, subst, arith}
use Rattle.std.proofs.lemmas.Int.{ints}
use Rattle.h2_streams.specs.Shifts.{AllStayAboveLeast}
use Rattle.h2_conn.proofs.ShiftLemmas.{stay-above, shifts-ok}
use Rattle.h2_conn.proofs.shift.shift_to.Goals as goal

pub shift_all-requires-clause-low : goal.shift_all-requires-clause-low
shift_all-requires-clause-low c = omega (arith, ints, c.change-by.ensures, c.requires.small, c.requires.last)

pub shift_all-requires-clause-high : goal.shift_all-requires-clause-high
shift_all-requires-clause-high c = omega (arith, ints, c.change-by.ensures, c.requires.small, c.requires.last)

pub shift_all-requires-clause-sums : goal.shift_all-requires-clause-sums
shift_all-requires-clause-sums c =
    let by : to_z w64 (of_z w64 c.change-by.result) ≡ pos c.args.last -ℤ pos c.args.initial = omega (arith, ints, c.change-by.ensures, c.requires.small, c.requires.last) in
    subst (λ (by : ℤ). AllStayAboveLeast by c.args.streams.now.live) (sym by) (stay-above c.args.initial c.args.last c.args.streams.now.live c.requires.near)

pub unreachable-requires : goal.unreachable-requires
unreachable-requires c =
    let by : to_z w64 (of_z w64 c.change-by.result) ≡ pos c.args.last -ℤ pos c.args.initial = omega (arith, ints, c.change-by.ensures, c.requires.small, c.requires.last) in
    let is = shifts-ok c.args.streams.now c.shift_all.new.self _ (pos c.args.last -ℤ pos c.args.initial) (Err c.in-Err.field-0) by c.requires.fits c.in-Err.ensures in
    absurd (cc (is.0))

pub returns : goal.returns
returns c =
    let by : to_z w64 (of_z w64 c.change-by.result) ≡ pos c.args.last -ℤ pos c.args.initial = omega (arith, ints, c.change-by.ensures, c.requires.small, c.requires.last) in
    (shifts-ok c.args.streams.now c.shift_all.new.self _ (pos c.args.last -ℤ pos c.args.initial) c.shift_all.result by c.requires.fits c.shift_all.ensures).1
