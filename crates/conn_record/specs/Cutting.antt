-- The bytes of a log, each with its way, without the cutting into reads and writes and without the waits.
use Rattle.std.specs.Prelude.{◌≡◌, ℕ, List, [], ◌∷◌, ◌++◌, map}
use Rattle.links.specs.Link.{Moved, Read, Wrote, Waited}
use Rattle.conn_record.specs.Timeline.{framed_from, framing_of}

pub data Passed : Type 0 where
  Came : ℕ → Passed
  Went : ℕ → Passed

abbrev pub passed_in : List Moved → List Passed
passed_in [] = []
passed_in (Read bytes ∷ log) = map Came bytes ++ passed_in log
passed_in (Wrote bytes ∷ log) = map Went bytes ++ passed_in log
passed_in (Waited ∷ log) = passed_in log

-- Two logs of the same bytes, however they were cut, have the same frames and hold the same of unfinished ones.
abbrev pub IsUncut : Type 0
IsUncut = (log other : List Moved) → passed_in log ≡ passed_in other → framing_of log ≡ framing_of other

-- A longer log is framed from where the shorter one ends.
abbrev pub IsContinued : Type 0
IsContinued = (log more : List Moved) → framing_of (log ++ more) ≡ framed_from (framing_of log) more
