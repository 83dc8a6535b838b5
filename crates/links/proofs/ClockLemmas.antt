-- One reading more of a clock in memory.
use Rattle.std.proofs.Common.{◌≡◌, ℕ, ◌+◌, ◌-◌, ◌^◌, ◌<◌, nat_lt, if◌then◌else◌, Bool, true, false, ℤ, List, [], ◌∷◌, ◌++◌, None, Some, refl, sym, ap, add-one, arith}
use Rattle.std.proofs.lemmas.Bool.Decides.{nat_tests}
use Rattle.outside.specs.Faults.{risen}
use Rattle.links.specs.Told.{more, GoesOn}
use Rattle.links.specs.Clock.{first_readings, reading_at, told_by}

first_readings-more : (times : List ℤ) (count next : ℕ) → next ≡ count + 1
    → first_readings times next ≡ first_readings times count ++ reading_at times count ∷ []
unfolding first_readings
first_readings-more times count next e = rw (e, add-one) refl

goes_on : (before now : Bool) (first next : List ℤ) (reading : ℤ)
    → (now ≡ true → (before ≡ true) × (next ≡ first ++ reading ∷ []))
    → GoesOn (if before then Some first else None) (reading ∷ []) (if now then Some next else None)
goes_on before false first next reading more = tt
goes_on true true first next reading more = ap Some (sym (more refl).1)
goes_on false true first next reading more = let e : false ≡ true = (more refl).0 in absurd cc

below_of : (n limit : ℕ) → nat_lt n limit ≡ true → n < limit
below_of n limit e = grind (arith, nat_tests)

test_below : (n limit : ℕ) → n < limit → nat_lt n limit ≡ true
test_below n limit e = grind (arith, nat_tests)

pub told_by-risen : (times : List ℤ) (count next : ℕ) (reading : ℤ) → next ≡ risen count → reading ≡ reading_at times count
    → GoesOn (told_by (record { times = times; count = count })) (reading ∷ []) (told_by (record { times = times; count = next }))
told_by-risen times count next reading counts reads =
    goes_on (nat_lt count (2 ^ 64 - 1)) (nat_lt next (2 ^ 64 - 1)) (first_readings times count) (first_readings times next) reading
    (λ (tells : nat_lt next (2 ^ 64 - 1) ≡ true).
    let below : next < 2 ^ 64 - 1 = below_of next (2 ^ 64 - 1) tells in
    let once : next ≡ count + 1 = omega arith in
    (test_below count (2 ^ 64 - 1) (omega arith), rw reads (first_readings-more times count next once)))
