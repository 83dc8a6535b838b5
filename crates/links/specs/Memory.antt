-- What a link in memory shows, and how its calls keep to its scripts.
use Rattle.std.specs.Prelude.{◌≡◌, ◌⊎◌, ℕ, ◌+◌, ◌<◌, Bool, true, List, [], ◌∷◌, take, drop, length, min, ⊤}
use Rattle.outside.specs.declared.scripts.Piece.{Piece}
use Rattle.links.specs.declared.scripts.Finds.{Finds}
use Rattle.links.specs.declared.scripts.Finds.TheVariants as finds
use Rattle.links.specs.declared.traffic.Step.{Step}
use Rattle.links.specs.declared.traffic.Step.TheVariants as step
use Rattle.links.specs.declared.link.LinkRead.{LinkRead}
use Rattle.links.specs.declared.link.LinkRead.TheVariants as read
use Rattle.links.specs.declared.link.LinkWrite.{LinkWrite}
use Rattle.links.specs.declared.link.LinkWrite.TheVariants as write
use Rattle.links.specs.Link.{Moved, Read, Wrote, Waited}
use Rattle.links.specs.Script.{found_by}

-- the log of these steps, each of which moved so many bytes of those that were read or written
abbrev pub log_of : List Step → (read written : List ℕ) → List Moved
log_of [] read written = []
log_of (step.Read n ∷ steps) read written = Read (take n read) ∷ log_of steps (drop n read) written
log_of (step.Wrote n ∷ steps) read written = Wrote (take n written) ∷ log_of steps read (drop n written)
log_of (step.Waited ∷ steps) read written = Waited ∷ log_of steps read written

-- how many bytes these steps read, and how many they wrote
abbrev pub read_by : List Step → ℕ
read_by [] = 0
read_by (step.Read n ∷ steps) = n + read_by steps
read_by (step.Wrote n ∷ steps) = read_by steps
read_by (step.Waited ∷ steps) = read_by steps

abbrev pub written_by : List Step → ℕ
written_by [] = 0
written_by (step.Read n ∷ steps) = written_by steps
written_by (step.Wrote n ∷ steps) = n + written_by steps
written_by (step.Waited ∷ steps) = written_by steps

-- the bytes left to read, and what moved
pub record Passed : Type 0 where
  pub left : List ℕ
  pub log : List Moved

-- the bytes left to read, what moved, whether a read met the end, whether it is closed, whether its last call was a
-- write that wasn't ready, the count of faults, and the rest of the scripts of its reads and of its writes
pub record LinkState : Type 0 where
  pub left : List ℕ
  pub log : List Moved
  pub ended : Bool
  pub closed : Bool
  pub blocked : Bool
  pub count : ℕ
  pub reads : List Piece
  pub writes : List Piece

-- what a call finds may be a fault, or bytes that there is no memory for
abbrev pub MayFail : Finds → Type 0
MayFail (finds.Room n) = 0 < n
MayFail finds.NotReady = ⊥
MayFail finds.Fault = ⊤

-- a read moves what its script allows of what is asked and there; behind the end it asks no script
abbrev pub ReadFollows : LinkState → LinkRead → (asked : ℕ) → Type 0
ReadFollows state (read.Got n) asked = found_by state.reads (min asked (length state.left)) ≡ finds.Room n
ReadFollows state read.NotReady asked = found_by state.reads (min asked (length state.left)) ≡ finds.NotReady
ReadFollows state read.End asked = (state.ended ≡ true) ⊎ (found_by state.reads (min asked (length state.left)) ≡ finds.Room 0)
ReadFollows state read.Failed asked = MayFail (found_by state.reads (min asked (length state.left)))

-- a write moves what its script allows of what is offered
abbrev pub WriteFollows : LinkState → LinkWrite → (offered : ℕ) → Type 0
WriteFollows state (write.Took n) offered = found_by state.writes offered ≡ finds.Room n
WriteFollows state write.NotReady offered = found_by state.writes offered ≡ finds.NotReady
WriteFollows state write.Failed offered = MayFail (found_by state.writes offered)
