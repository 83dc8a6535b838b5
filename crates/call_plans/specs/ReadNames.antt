-- The node of a read session that the name of a read stream means.
use Rattle.std.specs.Prelude.{ℕ, List, Option, Some, None, slice_get}
use Rattle.resource_names.specs.declared.read_streams.ReadName.{ReadName}
use Rattle.resource_names.specs.declared.read_streams.ReadPlace.{ReadPlace}
use Rattle.resource_names.specs.Read.{place_of, read_text}
use Rattle.read_msgs.specs.declared.streams.ReadStream.{ReadStream}
use Rattle.table_spec.specs.declared.spec.TableSpec.{TableSpec}
use Rattle.open_tables.specs.Plans.{Plan, Fixed}
use Rattle.call_plans.specs.Names.{on_spec}

-- a node of a session of the table at a place
abbrev pub on_node : {A : Type 0} → List TableSpec → (missing : A) → Option ReadPlace → (ReadPlace → TableSpec → Plan A) → Plan A
on_node specs missing None asks = Fixed missing
on_node specs missing (Some node) asks = on_spec missing node.table (slice_get specs node.table) (λ spec. asks node spec)

-- What is asked of the table whose read stream this name can be, or what is answered where there is none. The project may
-- be any.
abbrev pub on_read : {A : Type 0} → List TableSpec → (missing : A) → ReadName → (ReadPlace → TableSpec → Plan A) → Plan A
on_read specs missing name asks = on_node specs missing (place_of name) asks

-- a node of the session of a number, of the table at a place
abbrev pub read_stream : (project : List ℕ) → (place session node : ℕ) → ReadStream
read_stream project place session node = record { name = read_text project place session node }
