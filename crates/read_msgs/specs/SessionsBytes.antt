-- ReadSession, CreateReadSessionRequest: how they are written.
use Rattle.std.specs.Prelude.{ℕ, List, map, ◌++◌}
use Rattle.std.specs.Option.{option_map}
use Rattle.proto_fields.specs.Message.{message_of}
use Rattle.write_msgs.specs.Writing.{text_field, int_field, message_field, repeated_field}
use Rattle.write_msgs.specs.CommitPartsBytes.{timestamp_bytes}
use Rattle.read_msgs.specs.declared.sessions.ReadSession.{ReadSession}
use Rattle.read_msgs.specs.declared.sessions.CreateReadSessionRequest.{CreateReadSessionRequest}
use Rattle.read_msgs.specs.declared.numbers.TheConstants.{SESSION_NAME, EXPIRE_TIME, DATA_FORMAT, AVRO_SCHEMA, TABLE, TABLE_MODIFIERS, READ_OPTIONS, STREAMS, PARENT, READ_SESSION, MAX_STREAM_COUNT}
use Rattle.read_msgs.specs.OptionsBytes.{table_modifiers_bytes, table_read_options_bytes}
use Rattle.read_msgs.specs.RowsBytes.{avro_schema_bytes}
use Rattle.read_msgs.specs.StreamsBytes.{read_stream_bytes}

unfoldable pub read_session_bytes : ReadSession → List ℕ
read_session_bytes session =
    message_of (
    text_field SESSION_NAME session.name ++ message_field EXPIRE_TIME (option_map timestamp_bytes session.expire_time) ++ int_field DATA_FORMAT session.data_format
    ++ message_field AVRO_SCHEMA (option_map avro_schema_bytes session.avro_schema) ++ text_field TABLE session.table
    ++ message_field TABLE_MODIFIERS (option_map table_modifiers_bytes session.table_modifiers) ++ message_field READ_OPTIONS (option_map table_read_options_bytes session.read_options)
    ++ repeated_field STREAMS (map read_stream_bytes session.streams)
    )

unfoldable pub create_read_session_request_bytes : CreateReadSessionRequest → List ℕ
create_read_session_request_bytes request =
    message_of (
    text_field PARENT request.parent ++ message_field READ_SESSION (option_map read_session_bytes request.read_session) ++ int_field MAX_STREAM_COUNT request.max_stream_count
    )
