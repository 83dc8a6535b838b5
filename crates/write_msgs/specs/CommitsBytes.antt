-- BatchCommitWriteStreamsRequest, BatchCommitWriteStreamsResponse: how they are written.
use Rattle.std.specs.Prelude.{ℕ, List, map, ◌++◌}
use Rattle.std.specs.Option.{option_map}
use Rattle.proto_fields.specs.Message.{message_of}
use Rattle.write_msgs.specs.declared.commits.BatchCommitWriteStreamsRequest.{BatchCommitWriteStreamsRequest}
use Rattle.write_msgs.specs.declared.commits.BatchCommitWriteStreamsResponse.{BatchCommitWriteStreamsResponse}
use Rattle.write_msgs.specs.declared.numbers.TheConstants.{PARENT, WRITE_STREAMS, COMMIT_TIME, STREAM_ERRORS}
use Rattle.write_msgs.specs.Writing.{text_field, message_field, repeated_field}
use Rattle.write_msgs.specs.CommitPartsBytes.{timestamp_bytes, storage_error_bytes}

unfoldable pub batch_commit_write_streams_request_bytes : BatchCommitWriteStreamsRequest → List ℕ
batch_commit_write_streams_request_bytes message = message_of (text_field PARENT message.parent ++ repeated_field WRITE_STREAMS message.write_streams)

unfoldable pub batch_commit_write_streams_response_bytes : BatchCommitWriteStreamsResponse → List ℕ
batch_commit_write_streams_response_bytes message =
    message_of (message_field COMMIT_TIME (option_map timestamp_bytes message.commit_time) ++ repeated_field STREAM_ERRORS (map storage_error_bytes message.stream_errors))
