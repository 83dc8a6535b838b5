-- What holds of each frame that some bytes spell with a payload of at most 16,384 bytes and that no rule refuses.
use Rattle.std.specs.Prelude.{◌≡◌, ℕ, ◌*◌, ◌^◌, ◌<◌, ◌≤◌, true, [], length}
use Rattle.std.specs.List.{AllByRecursion}
use Rattle.h2_frames.specs.declared.frame.Frame.{Frame}
use Rattle.h2_frames.specs.declared.frame.Frame.TheVariants as frames
use Rattle.h2_frames.specs.declared.pairs.Pair.{Pair}
use Rattle.h2_frames.specs.Header.{max_frame_size}

-- the id of a stream, which the connection as a whole hasn't
pub record IsStreamId (stream : ℕ) : Type 0 where
  pub some : 0 < stream
  pub small : stream < 2 ^ 31

abbrev pub IsFrame : Frame → Type 0
IsFrame (frames.Body stream end bytes counted) = IsStreamId stream × (length bytes ≤ counted) × (counted ≤ max_frame_size)
IsFrame (frames.Headers stream end whole block) = IsStreamId stream × (length block ≤ max_frame_size)
IsFrame (frames.Priority stream) = IsStreamId stream
IsFrame (frames.Reset stream code) = IsStreamId stream
IsFrame (frames.Settings acked pairs) = (6 * length pairs ≤ max_frame_size) × (acked ≡ true → pairs ≡ [])
IsFrame (frames.Push stream) = ⊥
IsFrame (frames.Ping acked octets) = length octets ≡ 8
IsFrame (frames.Goaway last code) = last < 2 ^ 31
IsFrame (frames.Window stream add) = (stream < 2 ^ 31) × (add < 2 ^ 31)
IsFrame (frames.Continuation stream whole block) = IsStreamId stream × (length block ≤ max_frame_size)
IsFrame (frames.Unknown kind stream) = (10 ≤ kind) × (stream < 2 ^ 31)

-- without padding: what flow control counts is the content
abbrev pub IsUnpadded : Frame → Type 0
IsUnpadded (frames.Body stream end bytes counted) = counted ≡ length bytes
IsUnpadded _ = Unit {0}

-- the numbers are those that the fields' types have
pub record IsPairInRange (pair : Pair) : Type 0 where
  pub id : pair.id < 2 ^ 16
  pub value : pair.value < 2 ^ 32

abbrev pub IsInRange : Frame → Type 0
IsInRange (frames.Reset stream code) = code < 2 ^ 32
IsInRange (frames.Settings acked pairs) = AllByRecursion IsPairInRange pairs
IsInRange (frames.Goaway last code) = code < 2 ^ 32
IsInRange (frames.Unknown kind stream) = kind < 2 ^ 8
IsInRange _ = Unit {0}
