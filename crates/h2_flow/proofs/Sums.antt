-- Lists of calls on a window: what it is after them, and that it is not negative where bytes were spent.
use Rattle.std.proofs.Common.{◌≡◌, ◌≢◌, ℕ, ◌+◌, List, [], ◌∷◌, ◌++◌, refl, arith, Result, Ok, Err}
use Rattle.std.specs.Prelude.{ℤ, pos, ◌+ℤ◌, ◌-ℤ◌, ◌≤ℤ◌}
use Rattle.std.specs.List.{AllByRecursion}
use Rattle.std.proofs.lemmas.Int.{ints}
use Rattle.h2_flow.specs.Calls.{Call, Grant, Shift, Spend, Receive, Credit, Does, Leads, granted_by, spent_by, granted, spent, OnlyGrants, IsExactSum, IsGrantedWhenSpent, IsAlwaysGranted}

Does-sum : (call : Call) (old new : ℤ) → Does call old new → new ≡ (old +ℤ granted_by call) -ℤ pos (spent_by call)
Does-sum (Grant n (Ok _)) old new h = omega (arith, ints, h.1)
Does-sum (Grant n (Err fault)) old new h = omega (arith, ints, h.2)
Does-sum (Shift by (Ok _)) old new h = omega (arith, ints, h.1)
Does-sum (Shift by (Err fault)) old new h = omega (arith, ints, h.2)
Does-sum (Spend n) old new h = omega (arith, ints, h.1)
Does-sum (Receive n (Ok _)) old new h = omega (arith, ints, h.1)
Does-sum (Receive n (Err fault)) old new h = omega (arith, ints, h.3)
Does-sum (Credit n (Ok _)) old new h = omega (arith, ints, h.1)
Does-sum (Credit n (Err fault)) old new h = omega (arith, ints, h.2)

pub sum_of : IsExactSum
sum_of [] start now h = omega (arith, ints, h)
sum_of (call ∷ calls) start now h = omega (arith, ints, Does-sum call start h.0 h.1.0, sum_of calls h.0 now h.1.1)

-- the last call, and the window before it
Leads-last : (calls : List Call) (last : Call) (start now : ℤ) → Leads (calls ++ last ∷ []) start now → (before : ℤ) × Does last before now
Leads-last [] last start now h = (start, rw h.1.1 h.1.0)
Leads-last (call ∷ calls) last start now h = Leads-last calls last h.0 now h.1.1

spends : (last : Call) (before now : ℤ) → Does last before now → spent_by last ≢ 0 → pos 0 ≤ℤ now
spends (Grant n _) before now h some = absurd (some refl)
spends (Shift by _) before now h some = absurd (some refl)
spends (Spend n) before now h some = omega (arith, ints, h.0, h.1)
spends (Receive n (Ok _)) before now h some = omega (arith, ints, h.0, h.1)
spends (Receive n (Err fault)) before now h some = absurd (some refl)
spends (Credit n _) before now h some = absurd (some refl)

pub granted_when_spent : IsGrantedWhenSpent
granted_when_spent calls last start now h some =
    let end = Leads-last calls last start now h in
    omega (arith, ints, sum_of (calls ++ last ∷ []) start now h, spends last end.0 now end.1 some)

grants : (call : Call) (old new : ℤ) → pos 0 ≤ℤ old → OnlyGrants call → Does call old new → pos 0 ≤ℤ new
grants (Grant n (Ok _)) old new from only h = omega (arith, ints, from, h.1)
grants (Grant n (Err fault)) old new from only h = omega (arith, ints, from, h.2)
grants (Shift by (Ok _)) old new from only h = omega (arith, ints, from, only, h.1)
grants (Shift by (Err fault)) old new from only h = omega (arith, ints, from, h.2)
grants (Spend n) old new from only h = omega (arith, ints, h.0, h.1)
grants (Receive n (Ok _)) old new from only h = omega (arith, ints, h.0, h.1)
grants (Receive n (Err fault)) old new from only h = omega (arith, ints, from, h.3)
grants (Credit n (Ok _)) old new from only h = omega (arith, ints, from, h.1)
grants (Credit n (Err fault)) old new from only h = omega (arith, ints, from, h.2)

not_negative : (calls : List Call) (start now : ℤ) → pos 0 ≤ℤ start → AllByRecursion OnlyGrants calls → Leads calls start now → pos 0 ≤ℤ now
not_negative [] start now from only h = omega (arith, ints, from, h)
not_negative (call ∷ calls) start now from only h = not_negative calls h.0 now (grants call start h.0 from only.0 h.1.0) only.1 h.1.1

pub always_granted : IsAlwaysGranted
always_granted calls start now from only h =
    omega (arith, ints, sum_of calls start now h, not_negative calls start now from only h)
