-- The rows of a stream: those of all appends to it, joined in order.
use Rattle.std.specs.Prelude.{ℕ, List, [], length, if◌then◌else◌}
use Rattle.std.specs.List.{flat_map}
use Rattle.column_types.specs.declared.row.Row.{Row}
use Rattle.table_model.specs.declared.entries.Change.{Change}
use Rattle.table_model.specs.declared.entries.Change.TheVariants as change
use Rattle.table_model.specs.declared.streams.StreamRef.{StreamRef}
use Rattle.table_model.specs.Streams.{is_one_stream}
use Rattle.table_model.specs.History.{History}

-- the rows that a change appends to a stream
abbrev pub rows_onto : StreamRef → Change → List Row
rows_onto stream (change.Append on offset rows bytes) = if is_one_stream stream on then rows else []
rows_onto stream _ = []

abbrev pub content_of : History → StreamRef → List Row
content_of history stream = flat_map (λ entry. rows_onto stream entry.change) history

-- the offset of the next row
abbrev pub end_of : History → StreamRef → ℕ
end_of history stream = length (content_of history stream)
