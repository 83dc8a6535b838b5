-- What a piece of a client's bytes makes whole, if a reader of frames asked for as many bytes at least: a frame at the
-- most, with the last byte.
use Rattle.std.specs.Prelude.{◌≡◌, ℕ, ◌<◌, ◌≤◌, true, false, List, [], ◌∷◌, ◌++◌, length}
use Rattle.links.specs.Link.{Moved, Read}
use Rattle.h2_frames.specs.declared.reader.Next.TheVariants as next
use Rattle.h2_frames.specs.Held.{Held}
use Rattle.h2_frames.specs.Reading.{next_of, need_of, held_with}
use Rattle.conn_record.specs.Timeline.{framing_of, timeline_of, is_broken, fed}

-- A preface or a frame that isn't whole, of which no rule is broken yet: bytes are wanted.
pub record IsUnfinished (held : Held) : Type 0 where
  pub goes_on : next_of held ≡ next.More
  pub wants : 0 < need_of held

-- What is held of a log is unfinished.
abbrev pub HoldsUnfinished : Type 0
HoldsUnfinished = (log : List Moved) → IsUnfinished (framing_of log).inflow

-- Such a piece is framed as a reader that was fed it answers.
abbrev pub PiecesAreFramed : Type 0
PiecesAreFramed = (log : List Moved) (bytes : List ℕ) → is_broken (timeline_of log) ≡ false → length bytes ≤ need_of (framing_of log).inflow
    → framing_of (log ++ Read bytes ∷ []) ≡ fed (framing_of log) (held_with (framing_of log).inflow bytes)

-- Behind a broken rule nothing is found in what comes.
abbrev pub NothingBehindBroken : Type 0
NothingBehindBroken = (log : List Moved) (bytes : List ℕ) → is_broken (timeline_of log) ≡ true → framing_of (log ++ Read bytes ∷ []) ≡ framing_of log
