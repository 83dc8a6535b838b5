-- The frames of a link's log, in the order in which it makes each whole (RFC 9113 sections 3.4 and 4.1). Each byte is
-- looked at by itself, so that how the bytes were cut into reads and writes is of no account.
use Rattle.std.specs.Prelude.{ℕ, ◌+◌, Bool, true, false, List, [], ◌∷◌, ◌++◌, fold, if◌then◌else◌}
use Rattle.links.specs.Link.{Moved, Read, Wrote, Waited}
use Rattle.h2_frames.specs.declared.reader.Next.{Next}
use Rattle.h2_frames.specs.declared.reader.Next.TheVariants as next
use Rattle.h2_frames.specs.Held.{Held}
use Rattle.h2_frames.specs.Reading.{frame_next, next_of, held_with, held_after}
use Rattle.h2_frames.specs.Run.{nothing_held}
use Rattle.h2_record.specs.Record.{Record, In, Out, Broken}

pub record Framing : Type 0 where
  -- the frames that came and went, the latest first, and among them the rule of framing that the client broke, if it did
  pub frames : Record
  -- what came of the preface, or of a frame that isn't whole
  pub inflow : Held
  -- what went of a frame that isn't whole
  pub outflow : List ℕ
  -- how many bytes went since the latest frame came whole
  pub since : ℕ

-- before the first entry
abbrev pub unframed : Framing
unframed = record { frames = []; inflow = nothing_held; outflow = []; since = 0 }

-- behind a broken rule of framing no frame is found
abbrev pub is_broken : Record → Bool
is_broken [] = false
is_broken (Broken fault ∷ frames) = true
is_broken (_ ∷ frames) = is_broken frames

-- A frame came whole, or isn't whole yet. A broken rule stands in place of a frame, and what was held is forgotten.
abbrev pub came : Framing → Held → Next → Framing
came s held (next.Frame frame) = record { frames = In frame ∷ s.frames; inflow = held_after held (next.Frame frame); outflow = s.outflow; since = 0 }
came s held next.More = record { frames = s.frames; inflow = held; outflow = s.outflow; since = s.since }
came s held (next.Fault fault) = record { frames = Broken fault ∷ s.frames; inflow = nothing_held; outflow = s.outflow; since = 0 }

-- this is held of what came, and is judged as a reader of frames judges it
abbrev pub fed : Framing → Held → Framing
fed s held = came s held (next_of held)

-- a byte came
unfoldable pub byte_in : Framing → ℕ → Framing
byte_in s byte = if is_broken s.frames then s else fed s (held_with s.inflow (byte ∷ []))

-- a frame went whole, or isn't whole yet
abbrev pub went : Framing → List ℕ → Next → Framing
went s bytes (next.Frame frame) = record { frames = Out frame ∷ s.frames; inflow = s.inflow; outflow = []; since = s.since + 1 }
went s bytes _ = record { frames = s.frames; inflow = s.inflow; outflow = bytes; since = s.since + 1 }

-- a byte went
unfoldable pub byte_out : Framing → ℕ → Framing
byte_out s byte = went s (s.outflow ++ byte ∷ []) (frame_next (s.outflow ++ byte ∷ []))

abbrev pub moved : Framing → Moved → Framing
moved s (Read bytes) = fold byte_in s bytes
moved s (Wrote bytes) = fold byte_out s bytes
moved s Waited = s

-- a log goes on from here
abbrev pub framed_from : Framing → List Moved → Framing
framed_from s log = fold moved s log

unfoldable pub framing_of : List Moved → Framing
framing_of log = framed_from unframed log

-- the frames of a log, the latest first
abbrev pub timeline_of : List Moved → Record
timeline_of log = (framing_of log).frames
