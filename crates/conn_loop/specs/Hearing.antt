-- What one read of a link gives to a reader of frames.
use Rattle.std.specs.Prelude.{◌≡◌, ℕ, ◌≤◌, Bool, true, false, List, [], ◌∷◌, length, Option}
use Rattle.outside.specs.Faults.{Rose}
use Rattle.links.specs.Told.{more}
use Rattle.links.specs.Link.{Moved, Read, IsSpent}
use Rattle.h2_frames.specs.declared.reader.Next.{Next}
use Rattle.h2_frames.specs.declared.reader.Next.TheVariants as next
use Rattle.h2_frames.specs.Held.{Held}
use Rattle.h2_frames.specs.Reading.{next_of, need_of, held_with, held_after}
use Rattle.h2_frames.specs.Sound.{IsFrame}
use Rattle.conn_loop.specs.declared.hearing.Received.{Received}
use Rattle.conn_loop.specs.declared.hearing.Received.TheVariants as received

-- a reader that was fed a piece answers so, and holds what is left behind that
pub record AnswersNext (answer : Next) (old new : Held) (bytes : List ℕ) : Type 0 where
  pub answers : next_of (held_with old bytes) ≡ answer
  pub after : new ≡ held_after (held_with old bytes) answer

-- What a piece makes whole. Where memory was wanting, nothing is said of the reader.
abbrev pub Takes : Received → (old new : Held) (bytes : List ℕ) → Type 0
Takes (received.Frame frame) old new bytes = AnswersNext (next.Frame frame) old new bytes × IsFrame frame
Takes received.More old new bytes = AnswersNext next.More old new bytes
Takes (received.Fault fault) old new bytes = AnswersNext (next.Fault fault) old new bytes
Takes received.Memory old new bytes = Unit {0}
Takes _ old new bytes = ⊥

-- A piece came, of no more bytes than the reader asked for, and it was fed it.
pub record Came (gave : Received) (old new : Held) (log0 log : Option (List Moved)) : Type 0 where
  pub bytes : List ℕ
  pub few : length bytes ≤ need_of old
  pub told : log ≡ more log0 (Read bytes ∷ [])
  pub takes : Takes gave old new bytes

-- A piece came, or nothing did. Only where a read met the end of the bytes is it the end, and then none is left.
abbrev pub Hears : Received → (old new : Held) (log0 log : Option (List Moved)) (left : Option (List ℕ)) (ended : Bool) (before now : ℕ) → Type 0
Hears (received.Frame frame) old new log0 log left ended before now = Came (received.Frame frame) old new log0 log × (now ≡ before)
Hears received.More old new log0 log left ended before now = Came received.More old new log0 log × (now ≡ before)
Hears (received.Fault fault) old new log0 log left ended before now = Came (received.Fault fault) old new log0 log × (now ≡ before)
Hears received.Memory old new log0 log left ended before now = Came received.Memory old new log0 log × (now ≡ before)
Hears received.NotReady old new log0 log left ended before now = (new ≡ old) × (log ≡ log0) × (now ≡ before) × (ended ≡ false)
Hears received.End old new log0 log left ended before now = (new ≡ old) × (log ≡ log0) × (now ≡ before) × (ended ≡ true) × IsSpent left
Hears received.LinkFault old new log0 log left ended before now = (log ≡ log0) × Rose before now
