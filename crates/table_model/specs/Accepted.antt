-- What is so of each entry that an answer accepts, by the change that it makes.
use Rattle.std.specs.Prelude.{◌≡◌, ℕ, ◌+◌, ◌<◌, ◌≤◌, ℤ, ◌≤ℤ◌, true, false, Option, Some, List, [], length}
use Rattle.column_types.specs.declared.row.Row.{Row}
use Rattle.split_tree.specs.declared.node.Cut.TheVariants as cut
use Rattle.split_tree.specs.Intervals.{roots_of}
use Rattle.split_tree.specs.Nodes.{cut_by}
use Rattle.table_model.specs.declared.limits.TheConstants.{MAX_ENTRIES, MAX_STREAMS, MAX_SESSIONS, MAX_WEIGHT}
use Rattle.table_model.specs.declared.entries.Entry.{Entry}
use Rattle.table_model.specs.declared.entries.Change.{Change}
use Rattle.table_model.specs.declared.entries.Change.TheVariants as change
use Rattle.table_model.specs.declared.facts.Facts.{Facts}
use Rattle.table_model.specs.declared.streams.StreamRef.{StreamRef}
use Rattle.table_model.specs.declared.streams.StreamState.{StreamState}
use Rattle.table_model.specs.declared.sessions.ReadNode.{ReadNode}
use Rattle.table_model.specs.Streams.{is_default, is_buffered}
use Rattle.table_model.specs.Facts.{size_of_rows}
use Rattle.table_model.specs.Look.{Look}
use Rattle.table_model.specs.Checks.{names_twice, stream_errors}

-- a stream is created with the next number
pub record Creates (facts : Facts) (number : ℕ) : Type 0 where
  pub next : number ≡ facts.streams + 1
  pub room : facts.streams < MAX_STREAMS

-- rows are appended at the end of a stream that isn't finalised, within the limit of all rows
pub record Appends (facts : Facts) (look : StreamRef → Option StreamState) (on : StreamRef) (offset : ℕ) (rows : List Row) (bytes : ℕ) : Type 0 where
  pub state : StreamState
  pub there : look on ≡ Some state
  pub at_end : offset ≡ state.rows
  pub unfinished : state.finalised ≡ false
  pub light : facts.weight + size_of_rows facts.columns (length rows) bytes ≤ MAX_WEIGHT

-- more rows of a BUFFERED stream are flushed, and no more than there are
pub record Flushes (look : StreamRef → Option StreamState) (on : StreamRef) (upto : ℕ) : Type 0 where
  pub state : StreamState
  pub there : look on ≡ Some state
  pub buffered : is_buffered state.kind ≡ true
  pub rising : state.flushed < upto
  pub within : upto ≤ state.rows

-- a stream other than the default stream is finalised, which wasn't before
pub record Finalises (look : StreamRef → Option StreamState) (on : StreamRef) : Type 0 where
  pub state : StreamState
  pub there : look on ≡ Some state
  pub named : is_default on ≡ false
  pub unfinished : state.finalised ≡ false

-- streams are committed, each once, of which each can be
pub record Commits (look : StreamRef → Option StreamState) (streams : List StreamRef) : Type 0 where
  pub once : names_twice streams ≡ false
  pub good : stream_errors look streams ≡ []

-- a session is begun with the next number, over the rows that were visible at some moment, with so many roots as its count
-- asks for
pub record Begins (facts : Facts) (visible_by : ℤ → ℕ) (number at roots : ℕ) : Type 0 where
  pub next : number ≡ facts.sessions + 1
  pub room : facts.sessions < MAX_SESSIONS
  pub moment : ℤ
  pub visible : at ≡ visible_by moment
  pub count : ℕ
  pub cut : roots ≡ roots_of at count

-- a node of two rows or more, which wasn't split before, is split into the next two
pub record Opens (node_of : ℕ → ℕ → Option ReadNode) (session node left right : ℕ) : Type 0 where
  pub state : ReadNode
  pub there : node_of session node ≡ Some state
  pub made : cut_by state.node state.nodes ≡ cut.Made left right

abbrev pub Makes : Facts → Look → Change → Type 0
Makes facts look (change.Create number kind) = Creates facts number
Makes facts look (change.Append on offset rows bytes) = Appends facts look.stream on offset rows bytes
Makes facts look (change.Flush on upto) = Flushes look.stream on upto
Makes facts look (change.Finalise on) = Finalises look.stream on
Makes facts look (change.Commit streams) = Commits look.stream streams
Makes facts look (change.Session number at pred fields roots) = Begins facts look.visible_by number at roots
Makes facts look (change.Split session node left right) = Opens look.node session node left right

pub record IsMade (facts : Facts) (look : Look) (entry : Entry) : Type 0 where
  pub caller : entry.caller ≡ facts.caller
  pub number : entry.number ≡ facts.mine
  pub few : facts.entries < MAX_ENTRIES
  pub rises : facts.latest ≤ℤ entry.moment
  pub makes : Makes facts look entry.change
