-- What holds of the kept parts of a connection at every moment.
use Rattle.std.specs.Prelude.{ℕ, ◌-◌, ◌^◌, ◌<◌, ◌≤◌, List, Option, None, Some, pos, ◌+ℤ◌, ◌≤ℤ◌, length}
use Rattle.std.specs.List.{AllByRecursion}
use Rattle.h2_streams.specs.declared.stream.Stream.{Stream}
use Rattle.h2_streams.specs.Book.{Book}
use Rattle.h2_record.specs.declared.block.OpenBlock.{OpenBlock}
use Rattle.h2_record.specs.declared.block.OwedCredit.{OwedCredit}
use Rattle.h2_record.specs.declared.control.Control.{Control}
use Rattle.h2_record.specs.declared.control.Control.TheVariants as control
use Rattle.h2_record.specs.Faults.{most_flood}

-- A stream's send window is at most 2^31-1 below the initial size: what went beyond the increments is at most what the
-- initial size once was.
abbrev pub IsNearInitial : (initial : ℕ) → ℕ × Stream → Type 0
IsNearInitial initial entry = pos initial ≤ℤ (entry.1.send +ℤ pos (2 ^ 31 - 1))

-- the numbers have 31 bits
abbrev pub FitsFrame : Control → Type 0
FitsFrame (control.Goaway last code) = last < 2 ^ 31
FitsFrame (control.Credit stream add) = (stream < 2 ^ 31) × (add < 2 ^ 31)
FitsFrame _ = Unit {0}

abbrev pub IsSmallBlock : Option OpenBlock → Type 0
IsSmallBlock None = Unit {0}
IsSmallBlock (Some block) = (length block.bytes ≤ 65536) × (block.continuations ≤ 64)

-- the credit of one frame
abbrev pub IsSmallOwed : Option OwedCredit → Type 0
IsSmallOwed None = Unit {0}
IsSmallOwed (Some owed) = (owed.stream < 2 ^ 31) × (owed.bytes < 2 ^ 31)

pub record IsWithin (initial : ℕ) (streams : Book) (waiting : List Control) (block : Option OpenBlock) (owed : Option OwedCredit) (flood : ℕ) : Type 0 where
  pub small : initial < 2 ^ 31
  pub near : AllByRecursion (IsNearInitial initial) streams.live
  pub last : streams.last < 2 ^ 31
  pub fit : AllByRecursion FitsFrame waiting
  pub open_block : IsSmallBlock block
  pub credit : IsSmallOwed owed
  pub few : flood ≤ most_flood
