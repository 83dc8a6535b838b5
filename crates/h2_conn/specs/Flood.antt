-- The count of frames that ask for nothing, with one frame more.
use Rattle.std.specs.Prelude.{◌≡◌, ℕ, ◌+◌, ◌≤◌, nat_le, Bool, ◌&&◌, Option, Result, Ok, Err, Some, None, if◌then◌else◌}
use Rattle.h2_frames.specs.declared.fault.H2Fault.{H2Fault}
use Rattle.h2_record.specs.Codes.{enhance_your_calm}
use Rattle.h2_record.specs.Faults.{most_flood}
use Rattle.h2_record.specs.Rules.{code_if, broken}

-- the code, where the frame asks for nothing and is one too many
abbrev pub over_code : Bool → (flood : ℕ) → Option ℕ
over_code asks_nothing flood = code_if (asks_nothing && nat_le most_flood flood) enhance_your_calm

-- the count with the frame, or the fault
abbrev pub Counts : Bool → (flood : ℕ) → Result ℕ H2Fault → Type 0
Counts asks_nothing flood (Ok more) = (over_code asks_nothing flood ≡ None) × (more ≡ (if asks_nothing then flood + 1 else flood)) × (more ≤ most_flood)
Counts asks_nothing flood (Err fault) = broken 17 (over_code asks_nothing flood) ≡ Some fault
