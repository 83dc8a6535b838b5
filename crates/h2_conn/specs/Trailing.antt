-- Steps of the streams at HEADERS.
use Rattle.std.specs.Prelude.{◌≡◌, ℕ, ◌<◌, Bool, true, false, pos, length}
use Rattle.h2_streams.specs.declared.stream.Stream.{Stream}
use Rattle.h2_streams.specs.Book.{Book, opened, refused, with_stream}
use Rattle.h2_streams.specs.Calls.{new_stream}

-- a new id opens a stream, or is refused since 100 live
abbrev pub BeginsTo : (old : Book) (id initial : ℕ) (ended : Bool) → Bool → (new : Book) → Type 0
BeginsTo old id initial ended true new = (length old.live < 100) × (new ≡ opened old id (new_stream (pos initial) ended))
BeginsTo old id initial ended false new = (length old.live ≡ 100) × (new ≡ refused old id)

-- a live stream that neither side had ended is ended by the client, or not
abbrev pub EndsTo : (old : Book) (id : ℕ) (ended : Bool) → (new : Book) → Stream → Type 0
EndsTo old id ended new stream = stream.ended ≡ false → stream.answered ≡ false → new ≡ with_stream old id (record stream { ended = ended })
