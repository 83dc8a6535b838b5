-- What an answer looks up of a history: write streams, nodes of read sessions, and how many rows were visible at a moment.
use Rattle.std.specs.Prelude.{ℕ, ℤ, Option}
use Rattle.table_model.specs.declared.sessions.ReadNode.{ReadNode}
use Rattle.table_model.specs.declared.streams.StreamRef.{StreamRef}
use Rattle.table_model.specs.declared.streams.StreamState.{StreamState}
use Rattle.table_model.specs.History.{History}
use Rattle.table_model.specs.Facts.{state_of}
use Rattle.table_model.specs.Sessions.{read_node_of, visible_by}

pub record Look : Type 0 where
  pub stream : StreamRef → Option StreamState
  pub node : (session node : ℕ) → Option ReadNode
  pub visible_by : (moment : ℤ) → ℕ

abbrev pub look_of : History → Look
look_of history = record {
  stream = λ on. state_of history on;
  node = λ session node. read_node_of history session node;
  visible_by = λ moment. visible_by history moment;
}
