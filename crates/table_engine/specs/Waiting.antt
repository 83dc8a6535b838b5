-- The rows that wait until they are visible, stream by stream, and what a change makes of them.
use Rattle.std.specs.Prelude.{◌≡◌, ◌+◌, ◌-◌, ◌<◌, ◌≤◌, ◌^◌, nat_lt, false, Option, List, [], ◌∷◌, ◌++◌, length, take, drop, fold, slice_set, if◌then◌else◌}
use Rattle.std.specs.List.{flat_map, slice_index_or}
use Rattle.column_types.specs.declared.row.Row.{Row}
use Rattle.table_model.specs.declared.entries.Change.{Change}
use Rattle.table_model.specs.declared.entries.Change.TheVariants as change
use Rattle.table_model.specs.declared.streams.StreamRef.{StreamRef}
use Rattle.table_model.specs.declared.streams.StreamRef.TheVariants as stream
use Rattle.table_model.specs.declared.streams.StreamState.{StreamState}
use Rattle.table_model.specs.History.{History}
use Rattle.table_model.specs.Content.{content_of}
use Rattle.table_model.specs.Visible.{shown_of}
use Rattle.row_groups.specs.Places.{joined}
use Rattle.table_engine.specs.Streams.{at_once, flushed_in}

-- the rows of a stream that aren't visible: those behind the ones that are
abbrev pub hidden_of : History → StreamRef → List Row
hidden_of history on = drop (shown_of history on) (content_of history on)

-- The rows that wait, a list for each created stream in the order of the numbers.
abbrev pub Waits : Type 0
Waits = List (List Row)

-- those of one stream
abbrev pub waiting_of : Waits → StreamRef → List Row
waiting_of waits (stream.Number number) = if nat_lt 0 number then slice_index_or waits (number - 1) [] else []
waiting_of waits _ = []

-- these rows instead of those of one stream
abbrev pub with_rows : Waits → StreamRef → List Row → Waits
with_rows waits (stream.Number number) rows = if nat_lt 0 number then slice_set waits (number - 1) rows else waits
with_rows waits _ rows = waits

abbrev pub with_none : Waits → StreamRef → Waits
with_none waits on = with_rows waits on []

-- rows can wait for this stream
abbrev pub CanWait : Waits → StreamRef → Type 0
CanWait waits (stream.Number number) = (0 < number) × (number ≤ length waits)
CanWait waits _ = ⊥

-- The rows that a change makes visible, by what is kept of the streams.
abbrev pub rows_moved : (StreamRef → Option StreamState) → Waits → Change → List Row
rows_moved look waits (change.Append on offset rows bytes) = if at_once on (look on) then rows else []
rows_moved look waits (change.Flush on upto) = take (upto - flushed_in (look on)) (waiting_of waits on)
rows_moved look waits (change.Commit streams) = flat_map (waiting_of waits) streams
rows_moved look waits _ = []

-- The rows that wait behind it.
abbrev pub waits_after : (StreamRef → Option StreamState) → Waits → Change → Waits
waits_after look waits (change.Create number kind) = waits ++ [] ∷ []
waits_after look waits (change.Append on offset rows bytes) = if at_once on (look on) then waits else with_rows waits on (waiting_of waits on ++ rows)
waits_after look waits (change.Flush on upto) = with_rows waits on (drop (upto - flushed_in (look on)) (waiting_of waits on))
waits_after look waits (change.Commit streams) = fold with_none waits streams
waits_after look waits _ = waits

-- The rows of a change can be kept: those of an append are fewer than 2^32, and can wait for their stream.
abbrev pub CanKeep : (StreamRef → Option StreamState) → Waits → Change → Type 0
CanKeep look waits (change.Append on offset rows bytes) = (length rows < 2 ^ 32) × (at_once on (look on) ≡ false → CanWait waits on)
CanKeep look waits _ = Unit {0}

-- The rows of a change are stored, in groups and where they wait.
pub record Stores (look : StreamRef → Option StreamState) (c : Change) (old : List (List Row)) (waits : Waits) (new : List (List Row)) (waits_new : Waits) : Type 0 where
  pub shown : joined new ≡ joined old ++ rows_moved look waits c
  pub waiting : waits_new ≡ waits_after look waits c

-- The rows of a change can be stored.
pub record CanStore (look : StreamRef → Option StreamState) (c : Change) (groups : List (List Row)) (waits : Waits) : Type 0 where
  pub keep : CanKeep look waits c
  pub room : length (joined groups) + length (rows_moved look waits c) < 2 ^ 32
