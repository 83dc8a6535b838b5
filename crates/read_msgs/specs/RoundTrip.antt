-- What is written of a message reads back as the same message. The premises are what the types of its parts say: texts
-- are UTF-8, and numbers have 64 or 32 bits with a sign; and that no session has the format ARROW.
use Rattle.std.specs.Prelude.{◌≡◌, ◌<◌, ◌^◌, ℕ, List, false, length, IfSome, Result, Ok, FitsSigned}
use Rattle.std.specs.Int.{w32, w64}
use Rattle.std.specs.List.{AllByRecursion}
use Rattle.std.specs.Ordering.{int_eq}
use Rattle.std.specs.Str.{IsUtf8}
use Rattle.write_msgs.specs.declared.faults.MsgFault.{MsgFault}
use Rattle.write_msgs.specs.declared.commit_parts.Timestamp.{Timestamp}
use Rattle.read_msgs.specs.declared.options.TableModifiers.{TableModifiers}
use Rattle.read_msgs.specs.declared.options.TableReadOptions.{TableReadOptions}
use Rattle.read_msgs.specs.declared.rows.AvroSchema.{AvroSchema}
use Rattle.read_msgs.specs.declared.rows.ReadRowsRequest.{ReadRowsRequest}
use Rattle.read_msgs.specs.declared.rows.ReadRowsResponse.{ReadRowsResponse}
use Rattle.read_msgs.specs.declared.streams.ReadStream.{ReadStream}
use Rattle.read_msgs.specs.declared.streams.SplitReadStreamRequest.{SplitReadStreamRequest}
use Rattle.read_msgs.specs.declared.streams.SplitReadStreamResponse.{SplitReadStreamResponse}
use Rattle.read_msgs.specs.declared.sessions.ReadSession.{ReadSession}
use Rattle.read_msgs.specs.declared.sessions.CreateReadSessionRequest.{CreateReadSessionRequest}
use Rattle.read_msgs.specs.declared.numbers.TheConstants.{ARROW}
use Rattle.read_msgs.specs.Rows.{read_rows_request_of, read_rows_response_of}
use Rattle.read_msgs.specs.RowsBytes.{read_rows_request_bytes, read_rows_response_bytes}
use Rattle.read_msgs.specs.Streams.{split_read_stream_request_of, split_read_stream_response_of}
use Rattle.read_msgs.specs.StreamsBytes.{split_read_stream_request_bytes, split_read_stream_response_bytes}
use Rattle.read_msgs.specs.Sessions.{read_session_of, create_read_session_request_of}
use Rattle.read_msgs.specs.SessionsBytes.{read_session_bytes, create_read_session_request_bytes}

-- each of these messages, where it is written in fewer than 2^32 bytes, is what is read from them
abbrev pub ReadsBack : {X : Type 0} → (X → Type 0) → (X → List ℕ) → (List ℕ → Result X MsgFault) → Type 0
ReadsBack {X} holds bytes read = (message : X) → holds message → length (bytes message) < 2 ^ 32 → read (bytes message) ≡ Ok message

pub record IsTime (moment : Timestamp) : Type 0 where
  pub seconds : FitsSigned w64 moment.seconds
  pub nanos : FitsSigned w32 moment.nanos

pub record IsModifiers (modifiers : TableModifiers) : Type 0 where
  pub snapshot_time : IfSome modifiers.snapshot_time IsTime

pub record IsOptions (options : TableReadOptions) : Type 0 where
  pub selected_fields : AllByRecursion IsUtf8 options.selected_fields
  pub row_restriction : IsUtf8 options.row_restriction

pub record IsAvroSchema (avro : AvroSchema) : Type 0 where
  pub schema : IsUtf8 avro.schema

pub record IsReadStream (stream : ReadStream) : Type 0 where
  pub name : IsUtf8 stream.name

pub record IsSession (session : ReadSession) : Type 0 where
  pub name : IsUtf8 session.name
  pub expire_time : IfSome session.expire_time IsTime
  pub data_format : FitsSigned w32 session.data_format
  pub served : int_eq session.data_format ARROW ≡ false
  pub avro_schema : IfSome session.avro_schema IsAvroSchema
  pub table : IsUtf8 session.table
  pub table_modifiers : IfSome session.table_modifiers IsModifiers
  pub read_options : IfSome session.read_options IsOptions
  pub streams : AllByRecursion IsReadStream session.streams

abbrev pub SessionsReadBack : Type 0
SessionsReadBack = ReadsBack IsSession read_session_bytes read_session_of

pub record IsCreateRequest (request : CreateReadSessionRequest) : Type 0 where
  pub parent : IsUtf8 request.parent
  pub read_session : IfSome request.read_session IsSession
  pub max_stream_count : FitsSigned w32 request.max_stream_count

abbrev pub CreateRequestsReadBack : Type 0
CreateRequestsReadBack = ReadsBack IsCreateRequest create_read_session_request_bytes create_read_session_request_of

pub record IsSplitRequest (request : SplitReadStreamRequest) : Type 0 where
  pub name : IsUtf8 request.name

abbrev pub SplitRequestsReadBack : Type 0
SplitRequestsReadBack = ReadsBack IsSplitRequest split_read_stream_request_bytes split_read_stream_request_of

pub record IsSplitResponse (response : SplitReadStreamResponse) : Type 0 where
  pub primary_stream : IfSome response.primary_stream IsReadStream
  pub remainder_stream : IfSome response.remainder_stream IsReadStream

abbrev pub SplitResponsesReadBack : Type 0
SplitResponsesReadBack = ReadsBack IsSplitResponse split_read_stream_response_bytes split_read_stream_response_of

pub record IsRowsRequest (request : ReadRowsRequest) : Type 0 where
  pub read_stream : IsUtf8 request.read_stream
  pub offset : FitsSigned w64 request.offset

abbrev pub RowsRequestsReadBack : Type 0
RowsRequestsReadBack = ReadsBack IsRowsRequest read_rows_request_bytes read_rows_request_of

pub record IsRowsResponse (response : ReadRowsResponse) : Type 0 where
  pub row_count : FitsSigned w64 response.row_count
  pub avro_schema : IfSome response.avro_schema IsAvroSchema

abbrev pub RowsResponsesReadBack : Type 0
RowsResponsesReadBack = ReadsBack IsRowsResponse read_rows_response_bytes read_rows_response_of
