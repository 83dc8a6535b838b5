-- ReadStream, SplitReadStreamRequest, SplitReadStreamResponse: how they are read.
use Rattle.std.specs.Prelude.{ℕ, List, Result, Ok}
use Rattle.write_msgs.specs.declared.faults.MsgFault.{MsgFault}
use Rattle.write_msgs.specs.Faults.{both}
use Rattle.write_msgs.specs.Reading.{◌>>=◌, records_of, text_in, nested}
use Rattle.read_msgs.specs.declared.streams.ReadStream.{ReadStream}
use Rattle.read_msgs.specs.declared.streams.SplitReadStreamRequest.{SplitReadStreamRequest}
use Rattle.read_msgs.specs.declared.streams.SplitReadStreamResponse.{SplitReadStreamResponse}
use Rattle.read_msgs.specs.declared.numbers.TheConstants.{STREAM_NAME, SPLIT_NAME, PRIMARY_STREAM, REMAINDER_STREAM}

unfoldable pub read_stream_of : List ℕ → Result ReadStream MsgFault
read_stream_of bytes = do
  records ← records_of bytes
  name ← text_in STREAM_NAME records
  Ok (record { name = name })

unfoldable pub split_read_stream_request_of : List ℕ → Result SplitReadStreamRequest MsgFault
split_read_stream_request_of bytes = do
  records ← records_of bytes
  name ← text_in SPLIT_NAME records
  Ok (record { name = name })

unfoldable pub split_read_stream_response_of : List ℕ → Result SplitReadStreamResponse MsgFault
split_read_stream_response_of bytes = do
  records ← records_of bytes
  parts ← both (nested read_stream_of PRIMARY_STREAM bytes records) (nested read_stream_of REMAINDER_STREAM bytes records)
  Ok (record { primary_stream = parts.0; remainder_stream = parts.1 })
