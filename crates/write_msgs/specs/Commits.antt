-- BatchCommitWriteStreamsRequest, BatchCommitWriteStreamsResponse: how they are read.
use Rattle.std.specs.Prelude.{ℕ, List, Result, Ok, Err, Some}
use Rattle.write_msgs.specs.declared.faults.MsgFault.{MsgFault}
use Rattle.write_msgs.specs.declared.commits.BatchCommitWriteStreamsRequest.{BatchCommitWriteStreamsRequest}
use Rattle.write_msgs.specs.declared.commits.BatchCommitWriteStreamsResponse.{BatchCommitWriteStreamsResponse}
use Rattle.write_msgs.specs.declared.numbers.TheConstants.{PARENT, WRITE_STREAMS, COMMIT_TIME, STREAM_ERRORS}
use Rattle.write_msgs.specs.Faults.{both}
use Rattle.write_msgs.specs.Reading.{◌>>=◌, records_of, text_from, text_in, nested}
use Rattle.write_msgs.specs.Repeated.{repeated}
use Rattle.write_msgs.specs.CommitParts.{timestamp_of, storage_error_of}

-- one of the texts of a repeated field
abbrev pub text_item : ℕ → List ℕ → Result (List ℕ) MsgFault
text_item number bytes = text_from number (Some bytes)

unfoldable pub batch_commit_write_streams_request_of : List ℕ → Result BatchCommitWriteStreamsRequest MsgFault
batch_commit_write_streams_request_of bytes = do
  records ← records_of bytes
  parts ← both (text_in PARENT records) (repeated (text_item WRITE_STREAMS) WRITE_STREAMS bytes records)
  Ok (record { parent = parts.0; write_streams = parts.1 })

unfoldable pub batch_commit_write_streams_response_of : List ℕ → Result BatchCommitWriteStreamsResponse MsgFault
batch_commit_write_streams_response_of bytes = do
  records ← records_of bytes
  parts ← both (nested timestamp_of COMMIT_TIME bytes records) (repeated storage_error_of STREAM_ERRORS bytes records)
  Ok (record { commit_time = parts.0; stream_errors = parts.1 })
