-- What is written of a message reads back as the same message. The premises are what the types of its parts say: texts
-- are UTF-8, and numbers have 64 or 32 bits with a sign.
use Rattle.std.specs.Prelude.{◌≡◌, ◌<◌, ◌^◌, ℕ, List, length, IfSome, Result, Ok, FitsSigned}
use Rattle.std.specs.Int.{w32, w64}
use Rattle.std.specs.List.{AllByRecursion}
use Rattle.std.specs.Str.{IsUtf8}
use Rattle.write_msgs.specs.declared.faults.MsgFault.{MsgFault}
use Rattle.write_msgs.specs.declared.stream_calls.GetWriteStreamRequest.{GetWriteStreamRequest}
use Rattle.write_msgs.specs.declared.stream_calls.FinalizeWriteStreamRequest.{FinalizeWriteStreamRequest}
use Rattle.write_msgs.specs.declared.stream_calls.FinalizeWriteStreamResponse.{FinalizeWriteStreamResponse}
use Rattle.write_msgs.specs.declared.stream_calls.FlushRowsRequest.{FlushRowsRequest}
use Rattle.write_msgs.specs.declared.stream_calls.FlushRowsResponse.{FlushRowsResponse}
use Rattle.write_msgs.specs.declared.commit_parts.Timestamp.{Timestamp}
use Rattle.write_msgs.specs.declared.commit_parts.StorageError.{StorageError}
use Rattle.write_msgs.specs.declared.commits.BatchCommitWriteStreamsRequest.{BatchCommitWriteStreamsRequest}
use Rattle.write_msgs.specs.declared.commits.BatchCommitWriteStreamsResponse.{BatchCommitWriteStreamsResponse}
use Rattle.write_msgs.specs.Streams.{get_write_stream_request_of, finalize_write_stream_request_of, finalize_write_stream_response_of, flush_rows_request_of, flush_rows_response_of}
use Rattle.write_msgs.specs.StreamsBytes.{get_write_stream_request_bytes, finalize_write_stream_request_bytes, finalize_write_stream_response_bytes, flush_rows_request_bytes, flush_rows_response_bytes}
use Rattle.write_msgs.specs.CommitParts.{timestamp_of, storage_error_of}
use Rattle.write_msgs.specs.CommitPartsBytes.{timestamp_bytes, storage_error_bytes}
use Rattle.write_msgs.specs.Commits.{batch_commit_write_streams_request_of, batch_commit_write_streams_response_of}
use Rattle.write_msgs.specs.CommitsBytes.{batch_commit_write_streams_request_bytes, batch_commit_write_streams_response_bytes}

-- each of these messages, where it is written in fewer than 2^32 bytes, is what is read from them
abbrev pub ReadsBack : {X : Type 0} → (X → Type 0) → (X → List ℕ) → (List ℕ → Result X MsgFault) → Type 0
ReadsBack {X} holds bytes read = (message : X) → holds message → length (bytes message) < 2 ^ 32 → read (bytes message) ≡ Ok message

pub record IsGetRequest (request : GetWriteStreamRequest) : Type 0 where
  pub name : IsUtf8 request.name
  pub view : FitsSigned w32 request.view

abbrev pub GetRequestsReadBack : Type 0
GetRequestsReadBack = ReadsBack IsGetRequest get_write_stream_request_bytes get_write_stream_request_of

pub record IsFinalizeRequest (request : FinalizeWriteStreamRequest) : Type 0 where
  pub name : IsUtf8 request.name

abbrev pub FinalizeRequestsReadBack : Type 0
FinalizeRequestsReadBack = ReadsBack IsFinalizeRequest finalize_write_stream_request_bytes finalize_write_stream_request_of

pub record IsFinalizeResponse (response : FinalizeWriteStreamResponse) : Type 0 where
  pub row_count : FitsSigned w64 response.row_count

abbrev pub FinalizeResponsesReadBack : Type 0
FinalizeResponsesReadBack = ReadsBack IsFinalizeResponse finalize_write_stream_response_bytes finalize_write_stream_response_of

pub record IsFlushRequest (request : FlushRowsRequest) : Type 0 where
  pub name : IsUtf8 request.write_stream
  pub offset : IfSome request.offset (FitsSigned w64)

abbrev pub FlushRequestsReadBack : Type 0
FlushRequestsReadBack = ReadsBack IsFlushRequest flush_rows_request_bytes flush_rows_request_of

pub record IsFlushResponse (response : FlushRowsResponse) : Type 0 where
  pub offset : FitsSigned w64 response.offset

abbrev pub FlushResponsesReadBack : Type 0
FlushResponsesReadBack = ReadsBack IsFlushResponse flush_rows_response_bytes flush_rows_response_of

pub record IsTimestamp (moment : Timestamp) : Type 0 where
  pub seconds : FitsSigned w64 moment.seconds
  pub nanos : FitsSigned w32 moment.nanos

abbrev pub TimestampsReadBack : Type 0
TimestampsReadBack = ReadsBack IsTimestamp timestamp_bytes timestamp_of

pub record IsStorageError (error : StorageError) : Type 0 where
  pub code : FitsSigned w32 error.code
  pub entity : IsUtf8 error.entity
  pub error_message : IsUtf8 error.error_message

abbrev pub StorageErrorsReadBack : Type 0
StorageErrorsReadBack = ReadsBack IsStorageError storage_error_bytes storage_error_of

pub record IsCommitRequest (request : BatchCommitWriteStreamsRequest) : Type 0 where
  pub parent : IsUtf8 request.parent
  pub write_streams : AllByRecursion IsUtf8 request.write_streams

abbrev pub CommitRequestsReadBack : Type 0
CommitRequestsReadBack = ReadsBack IsCommitRequest batch_commit_write_streams_request_bytes batch_commit_write_streams_request_of

pub record IsCommitResponse (response : BatchCommitWriteStreamsResponse) : Type 0 where
  pub commit_time : IfSome response.commit_time IsTimestamp
  pub stream_errors : AllByRecursion IsStorageError response.stream_errors

abbrev pub CommitResponsesReadBack : Type 0
CommitResponsesReadBack = ReadsBack IsCommitResponse batch_commit_write_streams_response_bytes batch_commit_write_streams_response_of
