-- The visible rows of a table, in their order, and beside them the stream and the offset from which each came.
use Rattle.std.specs.Prelude.{ℕ, ℤ, Bool, ◌&&◌, ◌||◌, ◌==◌, Option, is_some, List, [], ◌∷◌, ◌++◌, length, map, take, drop, count_by, slice_get, if◌then◌else◌}
use Rattle.std.specs.List.{flat_map, range_with_len}
use Rattle.column_types.specs.declared.row.Row.{Row}
use Rattle.table_model.specs.declared.entries.Change.{Change}
use Rattle.table_model.specs.declared.entries.Change.TheVariants as change
use Rattle.table_model.specs.declared.streams.StreamRef.{StreamRef}
use Rattle.table_model.specs.declared.streams.StreamKind.{StreamKind}
use Rattle.table_model.specs.Streams.{is_one_stream, is_default, is_committed_kind, is_buffered}
use Rattle.table_model.specs.History.{History}
use Rattle.table_model.specs.Content.{content_of, end_of}
use Rattle.table_model.specs.Facts.{kind_of, flushed_of, committed_of}

-- What each change adds, at the history before it, joined in order.
abbrev pub gather : {A : Type 0} → (History → Change → List A) → History → History → List A
gather added before [] = []
gather added before (entry ∷ more) = added before entry.change ++ gather added (before ++ entry ∷ []) more

-- rows of a COMMITTED stream, and of the default stream, are visible once they are appended
abbrev pub shows_at_once : History → StreamRef → Bool
shows_at_once history stream = is_default stream || is_committed_kind (kind_of history stream)

abbrev pub rows_shown : History → Change → List Row
rows_shown before (change.Append on offset rows bytes) = if shows_at_once before on then rows else []
rows_shown before (change.Flush on upto) = drop (flushed_of before on) (take upto (content_of before on))
rows_shown before (change.Commit streams) = flat_map (content_of before) streams
rows_shown before _ = []

abbrev pub visible_of : History → List Row
visible_of history = gather rows_shown [] history

-- a stream and an offset in it
abbrev pub Source : Type 0
Source = StreamRef × ℕ

abbrev pub sources_from : StreamRef → ℕ → ℕ → List Source
sources_from stream offset count = map (λ at. (stream, at)) (range_with_len offset count)

-- the sources of all rows of a stream
abbrev pub sources_in : History → StreamRef → List Source
sources_in history stream = sources_from stream 0 (end_of history stream)

abbrev pub sources_shown : History → Change → List Source
sources_shown before (change.Append on offset rows bytes) =
    if shows_at_once before on then sources_from on (end_of before on) (length rows) else []
sources_shown before (change.Flush on upto) = drop (flushed_of before on) (take upto (sources_in before on))
sources_shown before (change.Commit streams) = flat_map (sources_in before) streams
sources_shown before _ = []

abbrev pub sources_of : History → List Source
sources_of history = gather sources_shown [] history

-- the row at this offset of this stream
abbrev pub row_at : History → Source → Option Row
row_at history source = slice_get (content_of history source.0) source.1

-- How many rows of a stream are visible: all of a COMMITTED stream and of the default stream, those flushed of a
-- BUFFERED one, and of a PENDING one all once it is committed.
abbrev pub shown_by : StreamRef → StreamKind → ℕ → ℕ → Option ℤ → ℕ
shown_by on kind end flushed committed =
    if is_default on || is_committed_kind kind then end
    else (if is_buffered kind then flushed
    else (if is_some committed then end else 0))

abbrev pub shown_of : History → StreamRef → ℕ
shown_of history on =
    shown_by on (kind_of history on) (end_of history on) (flushed_of history on) (committed_of history on)

-- a source is this row of this stream
abbrev pub is_source : StreamRef → ℕ → Source → Bool
is_source on offset source = is_one_stream on source.0 && offset == source.1

-- how often a row of a stream stands among some sources
abbrev pub times : StreamRef → ℕ → List Source → ℕ
times on offset sources = count_by (is_source on offset) sources
