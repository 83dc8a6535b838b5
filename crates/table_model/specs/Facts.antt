-- What a history says of a stream, and of the table as a whole.
use Rattle.std.specs.Prelude.{ℕ, ◌+◌, ◌*◌, ℤ, Bool, true, false, ◌&&◌, nat_le, length, fold, sum_by, Option, None, Some, is_some, IsTrue, if◌then◌else◌}
use Rattle.std.specs.List.{list_any}
use Rattle.table_model.specs.declared.limits.TheConstants.{ROW_OVERHEAD, COLUMN_OVERHEAD}
use Rattle.table_model.specs.declared.entries.Change.{Change}
use Rattle.table_model.specs.declared.entries.Change.TheVariants as change
use Rattle.table_model.specs.declared.streams.StreamRef.{StreamRef}
use Rattle.table_model.specs.declared.streams.StreamRef.TheVariants as stream
use Rattle.table_model.specs.declared.streams.StreamKind.{StreamKind}
use Rattle.table_model.specs.declared.streams.StreamKind.TheVariants as kind
use Rattle.table_model.specs.declared.streams.StreamState.{StreamState}
use Rattle.table_model.specs.declared.facts.Facts.{Facts}
use Rattle.table_model.specs.Streams.{is_one_stream}
use Rattle.table_model.specs.History.{History, moment_of, streams_of, sessions_of, entries_by}
use Rattle.table_model.specs.Content.{end_of}

-- the type that its Create gave it; the default stream, which has no Create, is COMMITTED
abbrev pub kind_after : StreamRef → StreamKind → Change → StreamKind
kind_after on before (change.Create number new) = if is_one_stream on (stream.Number number) then new else before
kind_after on before _ = before

abbrev pub kind_of : History → StreamRef → StreamKind
kind_of history on = fold (λ before entry. kind_after on before entry.change) kind.Committed history

-- a change creates this stream
abbrev pub creates : StreamRef → Change → Bool
creates on (change.Create number new) = is_one_stream on (stream.Number number)
creates on _ = false

-- a change finalises this stream
abbrev pub finalises : StreamRef → Change → Bool
finalises on (change.Finalise other) = is_one_stream on other
finalises on _ = false

-- a change commits this stream
abbrev pub commits : StreamRef → Change → Bool
commits on (change.Commit others) = list_any (is_one_stream on) others
commits on _ = false

-- the moment of the last entry with a change of this sort, if there is one
abbrev pub last_moment : (Change → Bool) → History → Option ℤ
last_moment test history = fold (λ before entry. if test entry.change then Some entry.moment else before) None history

-- when the stream was created
abbrev pub created_of : History → StreamRef → Option ℤ
created_of history on = last_moment (creates on) history

-- when the stream was committed
abbrev pub committed_of : History → StreamRef → Option ℤ
committed_of history on = last_moment (commits on) history

abbrev pub is_finalised : History → StreamRef → Bool
is_finalised history on = list_any (λ entry. finalises on entry.change) history

abbrev pub IsFinalised : History → StreamRef → Type 0
IsFinalised history on = IsTrue (is_finalised history on)

abbrev pub IsCommitted : History → StreamRef → Type 0
IsCommitted history on = IsTrue (is_some (committed_of history on))

-- the number of rows that its last Flush told, or 0
abbrev pub flushed_after : StreamRef → ℕ → Change → ℕ
flushed_after on before (change.Flush other upto) = if is_one_stream on other then upto else before
flushed_after on before _ = before

abbrev pub flushed_of : History → StreamRef → ℕ
flushed_of history on = fold (λ before entry. flushed_after on before entry.change) 0 history

-- The size of some rows in a table of some columns, whose serialised bytes have these lengths in sum.
abbrev pub size_of_rows : ℕ → ℕ → ℕ → ℕ
size_of_rows columns count bytes = (ROW_OVERHEAD + COLUMN_OVERHEAD * columns) * count + bytes

abbrev pub size_added : ℕ → Change → ℕ
size_added columns (change.Append on offset rows bytes) = size_of_rows columns (length rows) bytes
size_added columns _ = 0

-- the sum of the sizes of all rows
abbrev pub weight_of : ℕ → History → ℕ
weight_of columns history = sum_by (λ entry. size_added columns entry.change) history

abbrev pub state_in : History → StreamRef → StreamState
state_in history on = record {
  kind = kind_of history on;
  created = created_of history on;
  committed = committed_of history on;
  rows = end_of history on;
  flushed = flushed_of history on;
  finalised = is_finalised history on;
}

-- The streams of a history are the default stream and those that were created.
abbrev pub has_stream : History → StreamRef → Bool
has_stream history stream.Default = true
has_stream history (stream.Number number) = nat_le 1 number && nat_le number (streams_of history)
has_stream history stream.Other = false

abbrev pub state_of : History → StreamRef → Option StreamState
state_of history on = if has_stream history on then Some (state_in history on) else None

-- the facts of a table with this many columns, for a caller
abbrev pub facts_of : ℕ → History → ℕ → Facts
facts_of columns history caller = record {
  columns = columns;
  entries = length history;
  streams = streams_of history;
  sessions = sessions_of history;
  weight = weight_of columns history;
  latest = moment_of history;
  caller = caller;
  mine = entries_by caller history;
}
