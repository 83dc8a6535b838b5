-- ReadStream, SplitReadStreamRequest, SplitReadStreamResponse: how they are written.
use Rattle.std.specs.Prelude.{ℕ, List, ◌++◌}
use Rattle.std.specs.Option.{option_map}
use Rattle.proto_fields.specs.Message.{message_of}
use Rattle.write_msgs.specs.Writing.{text_field, message_field}
use Rattle.read_msgs.specs.declared.streams.ReadStream.{ReadStream}
use Rattle.read_msgs.specs.declared.streams.SplitReadStreamRequest.{SplitReadStreamRequest}
use Rattle.read_msgs.specs.declared.streams.SplitReadStreamResponse.{SplitReadStreamResponse}
use Rattle.read_msgs.specs.declared.numbers.TheConstants.{STREAM_NAME, SPLIT_NAME, PRIMARY_STREAM, REMAINDER_STREAM}

unfoldable pub read_stream_bytes : ReadStream → List ℕ
read_stream_bytes stream = message_of (text_field STREAM_NAME stream.name)

unfoldable pub split_read_stream_request_bytes : SplitReadStreamRequest → List ℕ
split_read_stream_request_bytes request = message_of (text_field SPLIT_NAME request.name)

unfoldable pub split_read_stream_response_bytes : SplitReadStreamResponse → List ℕ
split_read_stream_response_bytes response =
    message_of (message_field PRIMARY_STREAM (option_map read_stream_bytes response.primary_stream) ++ message_field REMAINDER_STREAM (option_map read_stream_bytes response.remainder_stream))
