-- A change of the initial size of send windows (RFC 9113 section 6.9.2).
use Rattle.std.specs.Prelude.{◌≡◌, ℕ, ℤ, ◌+ℤ◌, ◌≤ℤ◌, int_lt, Bool, List, map, find, Option, None, Some, Result, Ok, Err}
use Rattle.std.specs.List.{AllByRecursion}
use Rattle.std.specs.Map.{values_of}
use Rattle.h2_flow.specs.Range.{greatest, least}
use Rattle.h2_flow.specs.declared.window.Overflow.{Overflow}
use Rattle.h2_streams.specs.declared.stream.Stream.{Stream}
use Rattle.h2_streams.specs.Book.{Book}

-- a live stream with the change added to its send window
abbrev pub shifted_by : ℤ → ℕ × Stream → ℕ × Stream
shifted_by by entry = (entry.0, record entry.1 { send = entry.1.send +ℤ by })

abbrev pub shifted : Book → ℤ → Book
shifted book by = record { live = map (shifted_by by) book.live; last = book.last; resets = book.resets }

-- no send window would be below the least
abbrev pub AllStayAboveLeast : ℤ → List (ℕ × Stream) → Type 0
AllStayAboveLeast by live = AllByRecursion (λ entry. least ≤ℤ (entry.1.send +ℤ by)) live

-- the send window would be above the greatest
abbrev pub is_above : ℤ → Stream → Bool
is_above by stream = int_lt greatest (stream.send +ℤ by)

-- the first stream in the order of opening whose send window would be
abbrev pub first_above : Book → ℤ → Option Stream
first_above book by = find (is_above by) (values_of book.live)

-- All send windows are shifted, or none: the first that would be above the greatest refuses the change.
abbrev pub Shifts : (old : Book) (by : ℤ) → Option Stream → Result (Unit {0}) Overflow → (new : Book) → Type 0
Shifts old by None (Ok _) new = new ≡ shifted old by
Shifts old by None (Err fault) new = ⊥
Shifts old by (Some stream) (Ok _) new = ⊥
Shifts old by (Some stream) (Err fault) new = (fault.value ≡ stream.send +ℤ by) × (new ≡ old)

-- The stream's send window is shifted where the sum is a window.
abbrev pub IsShifted : ℤ → Stream → Stream → Type 0
IsShifted by old new = least ≤ℤ (old.send +ℤ by) → (old.send +ℤ by) ≤ℤ greatest → new ≡ record old { send = old.send +ℤ by }
