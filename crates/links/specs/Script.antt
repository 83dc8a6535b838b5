-- The script of a link in memory: its next piece says what the next call finds.
use Rattle.std.specs.Prelude.{ℕ, ◌<◌, ◌≤◌, Bool, true, List, [], ◌∷◌, min, nat_lt, ⊤}
use Rattle.std.specs.List.{list_all}
use Rattle.outside.specs.declared.scripts.Piece.{Piece}
use Rattle.outside.specs.declared.scripts.Piece.TheVariants as piece
use Rattle.links.specs.declared.scripts.Finds.{Finds}
use Rattle.links.specs.declared.scripts.Finds.TheVariants as finds

-- a call that is allowed to move bytes may move one at the least
abbrev pub is_link_piece : Piece → Bool
is_link_piece (piece.UpTo n) = nat_lt 0 n
is_link_piece piece.NotReady = true
is_link_piece piece.Fail = true

-- a script for a link
abbrev pub is_link_script : List Piece → Bool
is_link_script pieces = list_all is_link_piece pieces

-- what the next call finds that could move `count` bytes; behind the script's end it may move all
abbrev pub found_by : List Piece → ℕ → Finds
found_by [] count = finds.Room count
found_by (piece.UpTo n ∷ pieces) count = finds.Room (min n count)
found_by (piece.NotReady ∷ pieces) count = finds.NotReady
found_by (piece.Fail ∷ pieces) count = finds.Fault

-- no more than `count` bytes may move, and one may where `count` isn't 0
abbrev pub IsWithin : (count : ℕ) → Finds → Type 0
IsWithin count (finds.Room n) = (n ≤ count) × (0 < count → 0 < n)
IsWithin count finds.NotReady = ⊤
IsWithin count finds.Fault = ⊤
