-- Lists of calls on one window, and what they granted and spent in all.
use Rattle.std.specs.Prelude.{◌≡◌, ◌≢◌, ℕ, ℤ, pos, ◌+ℤ◌, ◌-ℤ◌, ◌≤ℤ◌, ◌+◌, List, [], ◌∷◌, ◌++◌, Result, Ok, Err}
use Rattle.std.specs.List.{AllByRecursion}
use Rattle.h2_flow.specs.declared.window.Overflow.{Overflow}
use Rattle.h2_flow.specs.declared.window.Overrun.{Overrun}
use Rattle.h2_flow.specs.Window.{Adds, Takes}

-- a call, with its argument and its answer
pub data Call : Type 0 where
  Grant : ℕ → Result (Unit {0}) Overflow → Call
  Shift : ℤ → Result (Unit {0}) Overflow → Call
  Spend : ℕ → Call
  Receive : ℕ → Result (Unit {0}) Overrun → Call
  Credit : ℕ → Result (Unit {0}) Overflow → Call

-- what the call does to the window, by its contract
abbrev pub Does : Call → (old new : ℤ) → Type 0
Does (Grant n answer) old new = Adds old (pos n) answer new
Does (Shift by answer) old new = Adds old by answer new
Does (Spend n) old new = (pos n ≤ℤ old) × (new ≡ old -ℤ pos n)
Does (Receive n answer) old new = Takes old n answer new
Does (Credit n answer) old new = Adds old (pos n) answer new

-- the calls lead from the one window to the other
abbrev pub Leads : List Call → (old new : ℤ) → Type 0
Leads [] old new = new ≡ old
Leads (call ∷ calls) old new = (between : ℤ) × (Does call old between × Leads calls between new)

-- what a call granted; a refused call grants nothing
abbrev pub granted_by : Call → ℤ
granted_by (Grant n (Ok _)) = pos n
granted_by (Shift by (Ok _)) = by
granted_by (Credit n (Ok _)) = pos n
granted_by _ = pos 0

-- what a call spent; a refused call spends nothing
abbrev pub spent_by : Call → ℕ
spent_by (Spend n) = n
spent_by (Receive n (Ok _)) = n
spent_by _ = 0

abbrev pub granted : List Call → ℤ
granted [] = pos 0
granted (call ∷ calls) = granted_by call +ℤ granted calls

abbrev pub spent : List Call → ℕ
spent [] = 0
spent (call ∷ calls) = spent_by call + spent calls

-- no call takes back what was granted, as a change to a smaller initial size does
abbrev pub OnlyGrants : Call → Type 0
OnlyGrants call = pos 0 ≤ℤ granted_by call

-- A window is where it began, and what was granted, less what was spent.
abbrev pub IsExactSum : Type 0
IsExactSum = (calls : List Call) (start now : ℤ) → Leads calls start now → now ≡ (start +ℤ granted calls) -ℤ pos (spent calls)

-- Whatever SETTINGS take back in between: when bytes are spent, all that was spent until then was granted.
abbrev pub IsGrantedWhenSpent : Type 0
IsGrantedWhenSpent = (calls : List Call) (last : Call) (start now : ℤ) → Leads (calls ++ last ∷ []) start now → spent_by last ≢ 0
    → pos (spent (calls ++ last ∷ [])) ≤ℤ (start +ℤ granted (calls ++ last ∷ []))

-- Where nothing is taken back, what was spent never exceeds what was granted.
abbrev pub IsAlwaysGranted : Type 0
IsAlwaysGranted = (calls : List Call) (start now : ℤ) → pos 0 ≤ℤ start → AllByRecursion OnlyGrants calls → Leads calls start now
    → pos (spent calls) ≤ℤ (start +ℤ granted calls)
