-- The node of a session that a name can be, where its table is there.
use Rattle.std.specs.Prelude.{ℕ, nat_lt, Option, Some, None, if◌then◌else◌}
use Rattle.resource_names.specs.declared.read_streams.ReadName.{ReadName}
use Rattle.resource_names.specs.declared.read_streams.ReadPlace.{ReadPlace}
use Rattle.resource_names.specs.Read.{place_of}

abbrev pub node_there : (tables : ℕ) → Option ReadPlace → Option ReadPlace
node_there tables None = None
node_there tables (Some node) = if nat_lt node.table tables then Some node else None

-- of so many tables
abbrev pub node_of : (tables : ℕ) → ReadName → Option ReadPlace
node_of tables name = node_there tables (place_of name)
