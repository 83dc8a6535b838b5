-- ReadSession, CreateReadSessionRequest: how they are read.
use Rattle.std.specs.Prelude.{ℕ, ℤ, List, Result, Ok, Option}
use Rattle.proto_fields.specs.Record.{Record}
use Rattle.write_msgs.specs.declared.faults.MsgFault.{MsgFault}
use Rattle.write_msgs.specs.declared.commit_parts.Timestamp.{Timestamp}
use Rattle.write_msgs.specs.Faults.{both}
use Rattle.write_msgs.specs.Reading.{◌>>=◌, records_of, text_in, int32_in, nested}
use Rattle.write_msgs.specs.Repeated.{repeated}
use Rattle.write_msgs.specs.CommitParts.{timestamp_of}
use Rattle.read_msgs.specs.declared.options.TableModifiers.{TableModifiers}
use Rattle.read_msgs.specs.declared.options.TableReadOptions.{TableReadOptions}
use Rattle.read_msgs.specs.declared.rows.AvroSchema.{AvroSchema}
use Rattle.read_msgs.specs.declared.streams.ReadStream.{ReadStream}
use Rattle.read_msgs.specs.declared.sessions.ReadSession.{ReadSession}
use Rattle.read_msgs.specs.declared.sessions.CreateReadSessionRequest.{CreateReadSessionRequest}
use Rattle.read_msgs.specs.declared.numbers.TheConstants.{SESSION_NAME, EXPIRE_TIME, AVRO_SCHEMA, TABLE, TABLE_MODIFIERS, READ_OPTIONS, STREAMS, PARENT, READ_SESSION, MAX_STREAM_COUNT}
use Rattle.read_msgs.specs.Parts.{format_in}
use Rattle.read_msgs.specs.Options.{table_modifiers_of, table_read_options_of}
use Rattle.read_msgs.specs.Rows.{avro_schema_of}
use Rattle.read_msgs.specs.Streams.{read_stream_of}

-- its name, and the name of its table
abbrev pub names_in : List Record → Result (List ℕ × List ℕ) MsgFault
names_in records = both (text_in SESSION_NAME records) (text_in TABLE records)

-- when it expires, and the schema of its rows
abbrev pub made_in : List ℕ → List Record → Result (Option Timestamp × Option AvroSchema) MsgFault
made_in bytes records = both (nested timestamp_of EXPIRE_TIME bytes records) (nested avro_schema_of AVRO_SCHEMA bytes records)

-- what is asked of its table
abbrev pub asked_in : List ℕ → List Record → Result (Option TableModifiers × Option TableReadOptions) MsgFault
asked_in bytes records = both (nested table_modifiers_of TABLE_MODIFIERS bytes records) (nested table_read_options_of READ_OPTIONS bytes records)

-- its format, which is served, and its read streams
abbrev pub served_in : List ℕ → List Record → Result (ℤ × List ReadStream) MsgFault
served_in bytes records = both (format_in records) (repeated read_stream_of STREAMS bytes records)

-- what names it and what the server tells of it, and the rest
abbrev pub told_in : List ℕ → List Record → Result ((List ℕ × List ℕ) × (Option Timestamp × Option AvroSchema)) MsgFault
told_in bytes records = both (names_in records) (made_in bytes records)

abbrev pub wanted_in : List ℕ → List Record → Result ((Option TableModifiers × Option TableReadOptions) × (ℤ × List ReadStream)) MsgFault
wanted_in bytes records = both (asked_in bytes records) (served_in bytes records)

-- a session of its parts
abbrev pub session_with : (List ℕ × List ℕ) × (Option Timestamp × Option AvroSchema) → (Option TableModifiers × Option TableReadOptions) × (ℤ × List ReadStream) → ReadSession
session_with told wanted =
    record {
      name = told.0.0;
      expire_time = told.1.0;
      data_format = wanted.1.0;
      avro_schema = told.1.1;
      table = told.0.1;
      table_modifiers = wanted.0.0;
      read_options = wanted.0.1;
      streams = wanted.1.1;
    }

unfoldable pub read_session_of : List ℕ → Result ReadSession MsgFault
read_session_of bytes = do
  records ← records_of bytes
  parts ← both (told_in bytes records) (wanted_in bytes records)
  Ok (session_with parts.0 parts.1)

unfoldable pub create_read_session_request_of : List ℕ → Result CreateReadSessionRequest MsgFault
create_read_session_request_of bytes = do
  records ← records_of bytes
  parts ← both (text_in PARENT records) (nested read_session_of READ_SESSION bytes records)
  Ok (record { parent = parts.0; read_session = parts.1; max_stream_count = int32_in MAX_STREAM_COUNT records })
