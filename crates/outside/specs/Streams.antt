-- What a read does to the bytes that a source has left, and a write to the bytes that a sink took.
use Rattle.std.specs.Prelude.{◌≡◌, ℕ, ◌<◌, ◌≤◌, List, length, take, ⊤, None, Some}
use Rattle.std.specs.Io.KnownBytes.{Appends, Consumes, IsAtEnd, Keeps}
use Rattle.std.specs.Prelude.{Option}
use Rattle.outside.specs.declared.sources.SourceRead.{SourceRead}
use Rattle.outside.specs.declared.sources.SourceRead.TheVariants as read
use Rattle.outside.specs.declared.sinks.SinkWrite.{SinkWrite}
use Rattle.outside.specs.declared.sinks.SinkWrite.TheVariants as write
use Rattle.outside.specs.Faults.{Rose}

-- bytes that were told are the same where they are told still
abbrev pub SameWhereTold : Option (List ℕ) → Option (List ℕ) → Type 0
SameWhereTold None new = ⊤
SameWhereTold (Some xs) None = ⊤
SameWhereTold (Some xs) (Some ys) = ys ≡ xs

-- a read gives from one byte to as many as there is room for
abbrev pub IsReadWithin : SourceRead → List ℕ → Type 0
IsReadWithin (read.Got n) into = (0 < n) × (n ≤ length into)
IsReadWithin read.End into = ⊤
IsReadWithin read.Failed into = ⊤

-- the bytes given are the first of those left, which lose them; the end is met only where none is left
abbrev pub ReadTakes : Option (List ℕ) → Option (List ℕ) → SourceRead → List ℕ → Type 0
ReadTakes old new (read.Got n) into = Consumes old new (take n into)
ReadTakes old new read.End into = IsAtEnd old × Keeps old new
ReadTakes old new read.Failed into = SameWhereTold old new

-- only a fault changes the count, and it makes it rise
abbrev pub ReadCause : ℕ → ℕ → SourceRead → Type 0
ReadCause before now (read.Got n) = now ≡ before
ReadCause before now read.End = now ≡ before
ReadCause before now read.Failed = Rose before now

-- a write takes from one byte to all that it is offered
abbrev pub IsWriteWithin : SinkWrite → List ℕ → Type 0
IsWriteWithin (write.Took n) from = (0 < n) × (n ≤ length from)
IsWriteWithin write.Failed from = ⊤

-- the bytes taken grow by the first of those offered
abbrev pub WriteAdds : Option (List ℕ) → Option (List ℕ) → SinkWrite → List ℕ → Type 0
WriteAdds old new (write.Took n) from = Appends old new (take n from)
WriteAdds old new write.Failed from = SameWhereTold old new

-- only a fault changes the count, and it makes it rise
abbrev pub WriteCause : ℕ → ℕ → SinkWrite → Type 0
WriteCause before now (write.Took n) = now ≡ before
WriteCause before now write.Failed = Rose before now
