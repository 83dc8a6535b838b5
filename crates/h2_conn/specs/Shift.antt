-- A change of the initial size of send windows, on the streams of a connection (RFC 9113 section 6.9.2).
use Rattle.std.specs.Prelude.{◌≡◌, ℕ, ◌==◌, Bool, true, false, ◌&&◌, List, Option, None, Some, is_some, pos, ◌-ℤ◌}
use Rattle.std.specs.List.{list_any}
use Rattle.h2_frames.specs.declared.pairs.Pair.{Pair}
use Rattle.h2_streams.specs.Book.{Book}
use Rattle.h2_streams.specs.Shifts.{first_above, shifted}
use Rattle.h2_record.specs.Windows.{initial_window_size, initial_after}

-- the pair makes a send window pass the greatest
abbrev pub is_too_large : Book → (initial : ℕ) → Pair → Bool
is_too_large book initial pair = pair.id == initial_window_size && is_some (first_above book (pos pair.value -ℤ pos initial))

-- The windows are shifted to the initial size that the pairs leave, or a pair makes one pass the greatest.
abbrev pub ShiftsTo : (old : Book) (initial : ℕ) → List Pair → Option ℕ → (new : Book) → Type 0
ShiftsTo old initial pairs None new = (list_any (is_too_large old initial) pairs ≡ true) × (new ≡ old)
ShiftsTo old initial pairs (Some final) new =
    (list_any (is_too_large old initial) pairs ≡ false) × (final ≡ initial_after initial pairs) × (new ≡ shifted old (pos final -ℤ pos initial))
