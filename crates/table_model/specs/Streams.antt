-- The names of write streams.
use Rattle.std.specs.Prelude.{Bool, true, false, ◌==◌}
use Rattle.table_model.specs.declared.streams.StreamRef.{StreamRef}
use Rattle.table_model.specs.declared.streams.StreamRef.TheVariants as stream
use Rattle.table_model.specs.declared.streams.StreamKind.{StreamKind}
use Rattle.table_model.specs.declared.streams.StreamKind.TheVariants as kind

-- two names name one stream; a name that no stream has names none
abbrev pub is_one_stream : StreamRef → StreamRef → Bool
is_one_stream stream.Default stream.Default = true
is_one_stream (stream.Number one) (stream.Number other) = one == other
is_one_stream _ _ = false

abbrev pub is_default : StreamRef → Bool
is_default stream.Default = true
is_default (stream.Number number) = false
is_default stream.Other = false

abbrev pub is_committed_kind : StreamKind → Bool
is_committed_kind kind.Committed = true
is_committed_kind kind.Pending = false
is_committed_kind kind.Buffered = false

abbrev pub is_pending : StreamKind → Bool
is_pending kind.Committed = false
is_pending kind.Pending = true
is_pending kind.Buffered = false

abbrev pub is_buffered : StreamKind → Bool
is_buffered kind.Committed = false
is_buffered kind.Pending = false
is_buffered kind.Buffered = true
