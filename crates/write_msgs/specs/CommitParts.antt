-- Timestamp, StorageError: how they are read.
use Rattle.std.specs.Prelude.{ℕ, List, Result, Ok}
use Rattle.write_msgs.specs.declared.faults.MsgFault.{MsgFault}
use Rattle.write_msgs.specs.declared.commit_parts.Timestamp.{Timestamp}
use Rattle.write_msgs.specs.declared.commit_parts.StorageError.{StorageError}
use Rattle.write_msgs.specs.declared.numbers.TheConstants.{ENTITY, ERROR_MESSAGE, NANOS, SECONDS, STORAGE_CODE}
use Rattle.write_msgs.specs.Faults.{both}
use Rattle.write_msgs.specs.Reading.{◌>>=◌, records_of, text_in, int64_in, int32_in}

unfoldable pub timestamp_of : List ℕ → Result Timestamp MsgFault
timestamp_of bytes = do
  records ← records_of bytes
  Ok (record { seconds = int64_in SECONDS records; nanos = int32_in NANOS records })

unfoldable pub storage_error_of : List ℕ → Result StorageError MsgFault
storage_error_of bytes = do
  records ← records_of bytes
  parts ← both (text_in ENTITY records) (text_in ERROR_MESSAGE records)
  Ok (record { code = int32_in STORAGE_CODE records; entity = parts.0; error_message = parts.1 })
