-- What moved over a link, and what each call of it adds.
use Rattle.std.specs.Prelude.{◌≡◌, ℕ, ◌<◌, ◌≤◌, Bool, true, false, List, [], ◌∷◌, ◌++◌, length, take, drop, Option, None, Some, Result, Ok, Err}
use Rattle.outside.specs.Faults.{Rose}
use Rattle.links.specs.declared.link.LinkRead.{LinkRead}
use Rattle.links.specs.declared.link.LinkRead.TheVariants as read
use Rattle.links.specs.declared.link.LinkWrite.{LinkWrite}
use Rattle.links.specs.declared.link.LinkWrite.TheVariants as write
use Rattle.links.specs.Told.{more}

pub data Moved : Type 0 where
  -- these bytes were read
  Read : List ℕ → Moved
  -- these bytes were written
  Wrote : List ℕ → Moved
  -- the link waited until there was something to read
  Waited : Moved

-- the bytes read
abbrev pub bytes_read : List Moved → List ℕ
bytes_read [] = []
bytes_read (Read bytes ∷ log) = bytes ++ bytes_read log
bytes_read (Wrote bytes ∷ log) = bytes_read log
bytes_read (Waited ∷ log) = bytes_read log

-- the bytes written
abbrev pub bytes_written : List Moved → List ℕ
bytes_written [] = []
bytes_written (Read bytes ∷ log) = bytes_written log
bytes_written (Wrote bytes ∷ log) = bytes ++ bytes_written log
bytes_written (Waited ∷ log) = bytes_written log

-- the first n of the bytes left are the first n of the piece, and are left no more
abbrev pub TakesFirst : (n : ℕ) (piece : List ℕ) (left0 left : Option (List ℕ)) → Type 0
TakesFirst n piece None left = left ≡ None
TakesFirst n piece (Some bytes) left = (take n bytes ≡ take n piece) × (left ≡ Some (drop n bytes))

-- no byte is left
abbrev pub IsSpent : Option (List ℕ) → Type 0
IsSpent None = Unit {0}
IsSpent (Some bytes) = bytes ≡ []

-- what a read gives, from one byte to all that there is room for, is a new entry; no other read changes log or bytes
abbrev pub Reads : LinkRead → (into : List ℕ) (log0 log : Option (List Moved)) (left0 left : Option (List ℕ)) → Type 0
Reads (read.Got n) into log0 log left0 left = (0 < n) × (n ≤ length into) × (log ≡ more log0 (Read (take n into) ∷ [])) × TakesFirst n into left0 left
Reads read.NotReady into log0 log left0 left = (log ≡ log0) × (left ≡ left0)
Reads read.End into log0 log left0 left = (log ≡ log0) × (left ≡ left0) × IsSpent left0
Reads read.Failed into log0 log left0 left = (log ≡ log0) × (left ≡ left0)

abbrev pub is_end : LinkRead → Bool
is_end (read.Got n) = false
is_end read.NotReady = false
is_end read.End = true
is_end read.Failed = false

-- only a fault changes the count, and it makes it rise
abbrev pub ReadCause : ℕ → ℕ → LinkRead → Type 0
ReadCause before now (read.Got n) = now ≡ before
ReadCause before now read.NotReady = now ≡ before
ReadCause before now read.End = now ≡ before
ReadCause before now read.Failed = Rose before now

-- what a write takes, from one byte to all that it is offered, is a new entry; no other write changes the log
abbrev pub Writes : LinkWrite → (from : List ℕ) (log0 log : Option (List Moved)) → Type 0
Writes (write.Took n) from log0 log = (0 < n) × (n ≤ length from) × (log ≡ more log0 (Wrote (take n from) ∷ []))
Writes write.NotReady from log0 log = log ≡ log0
Writes write.Failed from log0 log = log ≡ log0

-- only a fault changes the count, and it makes it rise
abbrev pub WriteCause : ℕ → ℕ → LinkWrite → Type 0
WriteCause before now (write.Took n) = now ≡ before
WriteCause before now write.NotReady = now ≡ before
WriteCause before now write.Failed = Rose before now

abbrev pub is_blocked : LinkWrite → Bool
is_blocked (write.Took n) = false
is_blocked write.NotReady = true
is_blocked write.Failed = false

-- A wait adds an entry, but not behind a write that wasn't ready. An error comes only where the count of faults rose.
abbrev pub Waits : {U E : Type 0} → Result U E → (blocked : Bool) (log0 log : Option (List Moved)) (before now : ℕ) → Type 0
Waits (Ok u) true log0 log before now = (log ≡ log0) × (now ≡ before)
Waits (Ok u) false log0 log before now = (log ≡ more log0 (Waited ∷ [])) × (now ≡ before)
Waits (Err e) blocked log0 log before now = (log ≡ log0) × Rose before now
