-- What is kept of a stream, and which changes can be made to the streams.
use Rattle.std.specs.Prelude.{◌≡◌, ℕ, ◌+◌, ◌<◌, ◌^◌, Bool, ◌||◌, Option, None, Some, [], length, IsSome, IfSome}
use Rattle.table_model.specs.declared.entries.Change.{Change}
use Rattle.table_model.specs.declared.entries.Change.TheVariants as change
use Rattle.table_model.specs.declared.streams.StreamRef.{StreamRef}
use Rattle.table_model.specs.declared.streams.StreamState.{StreamState}
use Rattle.table_model.specs.Streams.{is_default, is_committed_kind}
use Rattle.table_model.specs.Checks.{stream_errors}
use Rattle.write_streams.specs.Book.{Book, find}

-- rows appended to this stream are visible at once
abbrev pub at_once : StreamRef → Option StreamState → Bool
at_once on None = is_default on
at_once on (Some state) = is_default on || is_committed_kind state.kind

abbrev pub flushed_in : Option StreamState → ℕ
flushed_in None = 0
flushed_in (Some state) = state.flushed

-- A change can be made to the streams of a book: the next number is created, or the streams are there.
abbrev pub CanChange : Book → Change → Type 0
CanChange book (change.Create number kind) = (number ≡ length book.created + 1) × (length book.created + 1 < 2 ^ 32)
CanChange book (change.Append on offset rows bytes) = IsSome (find book on) × IfSome (find book on) (λ state. state.rows + length rows < 2 ^ 63)
CanChange book (change.Flush on upto) = IsSome (find book on)
CanChange book (change.Finalise on) = IsSome (find book on)
CanChange book (change.Commit streams) = stream_errors (find book) streams ≡ []
CanChange book (change.Session number at pred fields roots) = ⊥
CanChange book (change.Split session node left right) = ⊥
