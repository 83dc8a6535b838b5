-- What the messages of an AppendRows call have named: the last write stream and the last writer schema that one of them
-- named, also where the message was refused (AppendRowsRequest).
use Rattle.std.specs.Prelude.{ℕ, ◌==◌, List, [], length, Option, Some, None, option_and_then, unwrap_or, Result, Ok, Err, if◌then◌else◌}
use Rattle.std.specs.Option.{option_or}
use Rattle.write_msgs.specs.declared.request.AppendRowsRequest.{AppendRowsRequest}
use Rattle.write_msgs.specs.declared.request_parts.ProtoData.{ProtoData}
use Rattle.write_msgs.specs.declared.request_parts.ProtoSchema.{ProtoSchema}
use Rattle.write_msgs.specs.declared.faults.MsgFault.{MsgFault}
use Rattle.write_msgs.specs.Request.{append_rows_request_of}
use Rattle.conn_requests.specs.declared.asks.Ask.{Ask}
use Rattle.conn_requests.specs.declared.asks.Ask.TheVariants as ask

pub record Named : Type 0 where
  -- the name of the write stream; empty where none was named
  pub stream : List ℕ
  -- the descriptor of the writer schema
  pub schema : Option (List ℕ)

abbrev pub nothing_named : Named
nothing_named = record { stream = []; schema = None }

-- the descriptor of the writer schema that a message names, if it names one; a schema without a descriptor has the empty one
abbrev pub schema_in : ProtoData → Option (List ℕ)
schema_in sent = option_and_then (λ schema. Some (unwrap_or schema.proto_descriptor [])) sent.writer_schema

abbrev pub schema_named : AppendRowsRequest → Option (List ℕ)
schema_named request = option_and_then schema_in request.proto_rows

abbrev pub naming : Named → AppendRowsRequest → Named
naming named request = record {
  stream = if length request.write_stream == 0 then named.stream else request.write_stream;
  schema = option_or (schema_named request) named.schema;
}

abbrev pub named_by : Named → Result AppendRowsRequest MsgFault → Named
named_by named (Ok request) = naming named request
named_by named (Err refused) = named

-- with a message more; one that can't be read names nothing
unfoldable pub named_with : Named → (message : List ℕ) → Named
named_with named message = named_by named (append_rows_request_of message)

-- with what is asked more
abbrev pub named_after : Named → Ask → Named
named_after named (ask.Append message) = named_with named message
named_after named _ = named
