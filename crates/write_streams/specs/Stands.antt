-- A book stands for a history: it says of each stream what the history says.
use Rattle.std.specs.Prelude.{◌≡◌, ℕ, ◌<◌, None, [], ◌∷◌, ◌++◌, length}
use Rattle.table_model.specs.declared.entries.Entry.{Entry}
use Rattle.table_model.specs.declared.entries.Change.{Change}
use Rattle.table_model.specs.declared.entries.Change.TheVariants as change
use Rattle.table_model.specs.declared.streams.StreamKind.TheVariants as kind
use Rattle.table_model.specs.declared.streams.StreamRef.{StreamRef}
use Rattle.table_model.specs.declared.streams.StreamRef.TheVariants as stream
use Rattle.table_model.specs.History.{History, streams_of}
use Rattle.table_model.specs.Facts.{state_in, state_of}
use Rattle.write_streams.specs.Book.{Book, find, unused}

-- Nothing is said of a number that no stream has yet.
pub record Stands (book : Book) (history : History) : Type 0 where
  pub found : (on : StreamRef) → find book on ≡ state_of history on
  pub count : length book.created ≡ streams_of history
  pub fresh : (number : ℕ) → streams_of history < number → state_in history (stream.Number number) ≡ unused kind.Committed None

-- a change appends this many rows to this stream
abbrev pub IsAppend : StreamRef → ℕ → Change → Type 0
IsAppend on count (change.Append to offset rows bytes) = (to ≡ on) × (length rows ≡ count)
IsAppend on count _ = ⊥

-- a change begins a session or splits a node of one
abbrev pub IsRead : Change → Type 0
IsRead (change.Session number at pred fields roots) = Unit {0}
IsRead (change.Split session node left right) = Unit {0}
IsRead _ = ⊥

-- a book that stands for a history stands for it with a session or a split more
abbrev pub ReadsKeepBooks : Type 0
ReadsKeepBooks = (book : Book) (history : History) (entry : Entry) → Stands book history → IsRead entry.change → Stands book (history ++ entry ∷ [])
