-- A write stream as the replies describe it (WriteStream).
use Rattle.std.specs.Prelude.{ℕ, ℤ, pos, negsuc, ◌==◌, Option, Some, None, option_map, if◌then◌else◌}
use Rattle.resource_names.specs.declared.tables.TableName.{TableName}
use Rattle.resource_names.specs.declared.write_streams.StreamId.{StreamId}
use Rattle.table_model.specs.declared.streams.StreamKind.{StreamKind}
use Rattle.table_model.specs.declared.streams.StreamKind.TheVariants as kind
use Rattle.schema_msgs.specs.declared.schemas.TableSchema.{TableSchema}
use Rattle.schema_msgs.specs.declared.write_streams.WriteStream.{WriteStream}
use Rattle.call_plans.specs.Names.{stream_text}
use Rattle.call_plans.specs.Moments.{timestamp}

-- ---- its type

abbrev pub kind_code : StreamKind → ℤ
kind_code kind.Committed = pos 1
kind_code kind.Pending = pos 2
kind_code kind.Buffered = pos 3

abbrev pub kind_numbered : ℕ → Option StreamKind
kind_numbered code =
    if code == 1 then Some kind.Committed
    else if code == 2 then Some kind.Pending
    else if code == 3 then Some kind.Buffered
    else None

-- the type of this code; a stream of another can't be made
abbrev pub kind_coded : ℤ → Option StreamKind
kind_coded (pos code) = kind_numbered code
kind_coded (negsuc below) = None

-- ---- its times

-- The rows of a COMMITTED stream are committed from its creation on.
abbrev pub commit_moment : StreamKind → (created committed : Option ℤ) → Option ℤ
commit_moment kind.Committed created committed = created
commit_moment kind.Pending created committed = committed
commit_moment kind.Buffered created committed = None

-- ---- the whole

abbrev pub described : TableName → StreamId → StreamKind → (created committed : Option ℤ) → Option TableSchema → WriteStream
described table id kind created committed schema = record {
  name = stream_text table id;
  stream_type = kind_code kind;
  create_time = option_map timestamp created;
  commit_time = option_map timestamp (commit_moment kind created committed);
  table_schema = schema;
}
