-- Timestamp, StorageError: how they are written.
use Rattle.std.specs.Prelude.{ℕ, List, ◌++◌}
use Rattle.proto_fields.specs.Message.{message_of}
use Rattle.write_msgs.specs.declared.commit_parts.Timestamp.{Timestamp}
use Rattle.write_msgs.specs.declared.commit_parts.StorageError.{StorageError}
use Rattle.write_msgs.specs.declared.numbers.TheConstants.{ENTITY, ERROR_MESSAGE, NANOS, SECONDS, STORAGE_CODE}
use Rattle.write_msgs.specs.Writing.{text_field, int_field}

unfoldable pub timestamp_bytes : Timestamp → List ℕ
timestamp_bytes message = message_of (int_field SECONDS message.seconds ++ int_field NANOS message.nanos)

unfoldable pub storage_error_bytes : StorageError → List ℕ
storage_error_bytes message = message_of (int_field STORAGE_CODE message.code ++ text_field ENTITY message.entity ++ text_field ERROR_MESSAGE message.error_message)
