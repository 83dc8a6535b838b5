-- A buffer that is written in pieces, and a read of so many bytes at most.
use Rattle.std.specs.Prelude.{◌≡◌, ℕ, ◌<◌, ◌≤◌, Bool, true, false, List, map, length, take, Option, ⊤}
use Rattle.std.specs.List.{concat}
use Rattle.outside.specs.Faults.{Rose}
use Rattle.links.specs.Told.{more}
use Rattle.links.specs.Link.{Moved, Wrote}
use Rattle.links.specs.declared.link.LinkRead.{LinkRead}
use Rattle.links.specs.declared.link.LinkRead.TheVariants as read
use Rattle.links.specs.declared.pieces.Written.{Written}
use Rattle.links.specs.declared.pieces.Written.TheVariants as written

-- the link took these bytes, in pieces
pub record TookPieces (log0 log : Option (List Moved)) (bytes : List ℕ) : Type 0 where
  pub pieces : List (List ℕ)
  pub told : log ≡ more log0 (map Wrote pieces)
  pub joined : concat pieces ≡ bytes

-- how much of a buffer was taken
abbrev pub taken_of : Written → (bytes : List ℕ) → List ℕ
taken_of written.Whole bytes = bytes
taken_of (written.NotReady n) bytes = take n bytes
taken_of (written.Failed n) bytes = take n bytes

-- less than the whole was taken where the link wasn't ready or met a fault
abbrev pub IsPart : Written → (bytes : List ℕ) → Type 0
IsPart written.Whole bytes = ⊤
IsPart (written.NotReady n) bytes = n < length bytes
IsPart (written.Failed n) bytes = n < length bytes

-- whether the last call was a write that wasn't ready
abbrev pub ends_blocked : Written → Bool
ends_blocked written.Whole = false
ends_blocked (written.NotReady n) = true
ends_blocked (written.Failed n) = false

-- only a fault changes the count, and it makes it rise
abbrev pub WrittenCause : ℕ → ℕ → Written → Type 0
WrittenCause before now written.Whole = now ≡ before
WrittenCause before now (written.NotReady n) = now ≡ before
WrittenCause before now (written.Failed n) = Rose before now

-- no more than so many bytes were given
abbrev pub GivesAtMost : ℕ → LinkRead → Type 0
GivesAtMost most (read.Got n) = n ≤ most
GivesAtMost most read.NotReady = ⊤
GivesAtMost most read.End = ⊤
GivesAtMost most read.Failed = ⊤
