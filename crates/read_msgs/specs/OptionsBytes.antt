-- TableModifiers, TableReadOptions: how they are written.
use Rattle.std.specs.Prelude.{ℕ, List, ◌++◌}
use Rattle.std.specs.Option.{option_map}
use Rattle.proto_fields.specs.Message.{message_of}
use Rattle.write_msgs.specs.Writing.{text_field, message_field, repeated_field}
use Rattle.write_msgs.specs.CommitPartsBytes.{timestamp_bytes}
use Rattle.read_msgs.specs.declared.options.TableModifiers.{TableModifiers}
use Rattle.read_msgs.specs.declared.options.TableReadOptions.{TableReadOptions}
use Rattle.read_msgs.specs.declared.numbers.TheConstants.{SNAPSHOT_TIME, SELECTED_FIELDS, ROW_RESTRICTION}

unfoldable pub table_modifiers_bytes : TableModifiers → List ℕ
table_modifiers_bytes modifiers = message_of (message_field SNAPSHOT_TIME (option_map timestamp_bytes modifiers.snapshot_time))

unfoldable pub table_read_options_bytes : TableReadOptions → List ℕ
table_read_options_bytes options = message_of (repeated_field SELECTED_FIELDS options.selected_fields ++ text_field ROW_RESTRICTION options.row_restriction)
