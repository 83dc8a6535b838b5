-- Tests.
use Rattle.std.proofs.Common.{◌≡◌, ℕ, nat_lt, ◌<◌, ◌≤◌, ◌==◌, Bool, true, false, ◌&&◌, ◌||◌, refl, sym, true≢false, arith}
use Rattle.std.proofs.lemmas.Bool.Decides.{nat_tests}

pub or-first : (a b : Bool) → (a || b) ≡ false → a ≡ false
or-first true b e = e
or-first false b e = refl

pub or-second : (a b : Bool) → (a || b) ≡ false → b ≡ false
or-second true b e = absurd (true≢false e)
or-second false b e = e

pub or-none : (a b : Bool) → a ≡ false → b ≡ false → (a || b) ≡ false
or-none true b e f = absurd (true≢false e)
or-none false b e f = f

pub and-first : (a b : Bool) → (a && b) ≡ true → a ≡ true
and-first true b e = refl
and-first false b e = e

pub and-second : (a b : Bool) → (a && b) ≡ true → b ≡ true
and-second true b e = e
and-second false b e = absurd (true≢false (sym e))

pub and-false : (a : Bool) → (a && false) ≡ false
and-false true = refl
and-false false = refl

pub and-true : (a : Bool) → (a && true) ≡ a
and-true true = refl
and-true false = refl

pub and-true-or-false : (a : Bool) → ((a && true) || false) ≡ a
and-true-or-false true = refl
and-true-or-false false = refl

pub or-true : (a : Bool) → (a || true) ≡ true
or-true true = refl
or-true false = refl

pub lt-true : (a b : ℕ) → nat_lt a b ≡ true → a < b
lt-true a b e = grind (arith, nat_tests)

pub lt-false : (a b : ℕ) → nat_lt a b ≡ false → b ≤ a
lt-false a b e = grind (arith, nat_tests)

pub lt-yes : (a b : ℕ) → a < b → nat_lt a b ≡ true
lt-yes a b h = grind (arith, nat_tests)

pub lt-no : (a b : ℕ) → b ≤ a → nat_lt a b ≡ false
lt-no a b h = grind (arith, nat_tests)

pub apart-above : (a b : ℕ) → b < a → (a == b) ≡ false
apart-above a b h = grind (arith, nat_tests)

pub apart-flip : (a b : ℕ) → (a == b) ≡ false → (b == a) ≡ false
apart-flip a b h = grind (arith, nat_tests)

pub same-self : (a : ℕ) → (a == a) ≡ true
same-self a = grind (arith, nat_tests)

pub same-eq : (a b : ℕ) → (a == b) ≡ true → a ≡ b
same-eq a b h = grind (arith, nat_tests)

-- either answer
pub by-test : {P : Type 0} (b : Bool) → (b ≡ true → P) → (b ≡ false → P) → P
by-test true yes_case no_case = yes_case refl
by-test false yes_case no_case = no_case refl
