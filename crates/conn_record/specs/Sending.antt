-- How frames that are written become whole: each with its last byte, however the bytes were cut into writes.
use Rattle.std.specs.Prelude.{◌≡◌, ℕ, ◌+◌, ◌<◌, List, [], ◌∷◌, ◌++◌, map, length}
use Rattle.std.specs.List.{flat_map, concat, AllByRecursion}
use Rattle.links.specs.Link.{Moved, Read, Wrote, Waited, bytes_written}
use Rattle.h2_frames.specs.declared.frame.Frame.{Frame}
use Rattle.h2_frames.specs.declared.reader.Next.TheVariants as next
use Rattle.h2_frames.specs.Reading.{frame_next}
use Rattle.h2_frames.specs.Spelled.{Spells, IsAllowed}
use Rattle.h2_frames.specs.Spelling.{spelling, IsWritable, frame_len}
use Rattle.h2_frames.specs.Sound.{IsInRange}
use Rattle.conn_record.specs.Timeline.{Framing, framing_of, timeline_of}
use Rattle.conn_record.specs.Written.{with_outs, spelled_out}

-- the bytes that went are the server's own spelling of the frames that went, and what is held of one that isn't whole
abbrev pub IsOwn : List Moved → Type 0
IsOwn log = bytes_written log ≡ spelled_out (timeline_of log) ++ (framing_of log).outflow

-- a frame that is read again as it was written
abbrev pub IsSendable : Frame → Type 0
IsSendable frame = IsWritable frame × IsInRange frame

-- nothing of the frames, or less than the first
abbrev pub IsWithinFirst : List ℕ → List Frame → Type 0
IsWithinFirst outflow [] = outflow ≡ []
IsWithinFirst outflow (frame ∷ frames) = length outflow < frame_len frame

-- Of the spelling of some frames these bytes went and the rest is left: the first frames are whole, and what is held is
-- a front of the spelling of the others.
pub record Sent (s : Framing) (frames : List Frame) (bytes left : List ℕ) (now : Framing) : Type 0 where
  pub whole : List Frame
  pub others : List Frame
  pub parts : frames ≡ whole ++ others
  pub now_is : now ≡ record { frames = with_outs s.frames whole; inflow = s.inflow; outflow = now.outflow; since = s.since + length bytes }
  pub held : now.outflow ++ left ≡ flat_map spelling others
  pub within : IsWithinFirst now.outflow others

-- A proper front of a frame's text holds no frame, so that the frame is whole with its last byte.
abbrev pub FrontsHoldNoFrame : Type 0
FrontsHoldNoFrame = (frame : Frame) (text front rest : List ℕ) → text ≡ front ++ rest → 0 < length rest → Spells frame text → IsAllowed text → frame_next front ≡ next.More

-- Where frames are written, in any pieces, the first of them are whole, and what is left is behind what is held.
abbrev pub PartsAreSent : Type 0
PartsAreSent = (log : List Moved) (frames : List Frame) (pieces : List (List ℕ)) (left : List ℕ) → (framing_of log).outflow ≡ [] → AllByRecursion IsSendable frames
    → concat pieces ++ left ≡ flat_map spelling frames → Sent (framing_of log) frames (concat pieces) left (framing_of (log ++ map Wrote pieces))

-- Where nothing is left, these frames went, and nothing is held.
abbrev pub AllAreSent : Type 0
AllAreSent = (log : List Moved) (frames : List Frame) (pieces : List (List ℕ)) → (framing_of log).outflow ≡ [] → AllByRecursion IsSendable frames
    → concat pieces ≡ flat_map spelling frames
    → framing_of (log ++ map Wrote pieces)
    ≡ record { frames = with_outs (timeline_of log) frames; inflow = (framing_of log).inflow; outflow = []; since = (framing_of log).since + length (concat pieces) }

-- The bytes that went stay the server's own, whatever is read, where the link waits, and where frames are written.
abbrev pub OwnStays : Type 0
OwnStays = (log : List Moved) → IsOwn log → ((bytes : List ℕ) → IsOwn (log ++ Read bytes ∷ [])) × IsOwn (log ++ Waited ∷ [])

abbrev pub OwnIsSent : Type 0
OwnIsSent = (log : List Moved) (frames : List Frame) (pieces : List (List ℕ)) (left : List ℕ) → IsOwn log → (framing_of log).outflow ≡ [] → AllByRecursion IsSendable frames
    → concat pieces ++ left ≡ flat_map spelling frames → IsOwn (log ++ map Wrote pieces)
