-- The table and the write stream that a name in a request means.
use Rattle.std.specs.Prelude.{ℕ, Bool, ◌&&◌, List, [], Option, Some, None, slice_get}
use Rattle.std.specs.Str.{bytes_eq}
use Rattle.resource_names.specs.declared.tables.TableName.{TableName}
use Rattle.resource_names.specs.declared.write_streams.StreamId.{StreamId}
use Rattle.resource_names.specs.declared.write_streams.StreamId.TheVariants as id
use Rattle.resource_names.specs.Table.{table_text}
use Rattle.resource_names.specs.Write.{write_text, default_text}
use Rattle.table_spec.specs.declared.spec.TableSpec.{TableSpec}
use Rattle.table_model.specs.declared.streams.StreamRef.{StreamRef}
use Rattle.table_model.specs.declared.streams.StreamRef.TheVariants as stream
use Rattle.open_tables.specs.Tables.{place_of}
use Rattle.open_tables.specs.Plans.{Plan, Fixed}

-- ---- the table

-- the table at a place, or none
abbrev pub on_spec : {A : Type 0} → (missing : A) → (place : ℕ) → Option TableSpec → (TableSpec → Plan A) → Plan A
on_spec missing place None asks = Fixed missing
on_spec missing place (Some spec) asks = asks spec

abbrev pub on_place : {A : Type 0} → List TableSpec → (missing : A) → Option ℕ → (ℕ → TableSpec → Plan A) → Plan A
on_place specs missing None asks = Fixed missing
on_place specs missing (Some place) asks = on_spec missing place (slice_get specs place) (asks place)

-- What is asked of the table of this name, by its place and spec, or what is answered where there is none.
abbrev pub on_table : {A : Type 0} → List TableSpec → (missing : A) → TableName → (ℕ → TableSpec → Plan A) → Plan A
on_table specs missing name asks = on_place specs missing (place_of specs (table_text name)) asks

-- two names of one table
abbrev pub is_one_table : TableName → TableName → Bool
is_one_table a b = bytes_eq a.project b.project && bytes_eq a.dataset b.dataset && bytes_eq a.table b.table

-- ---- the write stream

-- as the table's commands name it
abbrev pub ref_of : StreamId → StreamRef
ref_of id.Default = stream.Default
ref_of (id.Number number) = stream.Number number
ref_of id.Other = stream.Other

-- The name that a reply has: of the default stream the form with `/streams/`. No reply names a stream that isn't there.
abbrev pub stream_text : TableName → StreamId → List ℕ
stream_text table id.Default = default_text table
stream_text table (id.Number number) = write_text table number
stream_text table id.Other = []
