-- The payload of DATA on a live stream.
use Rattle.std.specs.Prelude.{◌≡◌, ℕ, Bool, true, false, pos, ◌-ℤ◌, ◌≤ℤ◌, ◌<ℤ◌}
use Rattle.h2_streams.specs.declared.stream.Stream.{Stream}
use Rattle.h2_streams.specs.Book.{Book, with_stream}

-- the stream without so many bytes of its receive window, and ended or not
abbrev pub paid : Stream → (end : Bool) → (counted : ℕ) → Stream
paid stream end counted = record { send = stream.send; receive = stream.receive -ℤ pos counted; ended = end; answered = stream.answered }

-- The payload is within the stream's receive window and is taken from it, or it isn't.
abbrev pub Pays : (old : Book) (id : ℕ) (end : Bool) (counted : ℕ) → Bool → (new : Book) → Stream → Type 0
Pays old id end counted true new stream = (pos counted ≤ℤ stream.receive) × (stream.answered ≡ false → new ≡ with_stream old id (paid stream end counted))
Pays old id end counted false new stream = (stream.receive <ℤ pos counted) × (new ≡ old)
