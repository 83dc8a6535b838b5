-- What a call does to a flow-control window (RFC 9113 sections 6.9.1 and 6.9.2).
use Rattle.std.specs.Prelude.{◌≡◌, ℕ, ℤ, pos, ◌+ℤ◌, ◌-ℤ◌, ◌<ℤ◌, ◌≤ℤ◌, Result, Ok, Err}
use Rattle.h2_flow.specs.declared.window.Overflow.{Overflow}
use Rattle.h2_flow.specs.declared.window.Overrun.{Overrun}
use Rattle.h2_flow.specs.Range.{greatest}

-- The window becomes the sum. A sum above the greatest window is refused, and the window stays.
abbrev pub Adds : (old by : ℤ) → Result (Unit {0}) Overflow → (new : ℤ) → Type 0
Adds old by (Ok _) new = ((old +ℤ by) ≤ℤ greatest) × (new ≡ old +ℤ by)
Adds old by (Err fault) new = (greatest <ℤ (old +ℤ by)) × (fault.value ≡ old +ℤ by) × (new ≡ old)

-- The bytes are taken from the window. More bytes than it has are refused, and the window stays.
abbrev pub Takes : (old : ℤ) (n : ℕ) → Result (Unit {0}) Overrun → (new : ℤ) → Type 0
Takes old n (Ok _) new = (pos n ≤ℤ old) × (new ≡ old -ℤ pos n)
Takes old n (Err fault) new = (old <ℤ pos n) × (fault.had ≡ old) × (fault.asked ≡ n) × (new ≡ old)
