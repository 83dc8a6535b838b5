-- TableModifiers, TableReadOptions: how they are read.
use Rattle.std.specs.Prelude.{ℕ, List, Result, Ok}
use Rattle.proto_fields.specs.Record.{Record}
use Rattle.write_msgs.specs.declared.faults.MsgFault.{MsgFault}
use Rattle.write_msgs.specs.Faults.{both}
use Rattle.write_msgs.specs.Reading.{◌>>=◌, records_of, text_in, nested}
use Rattle.write_msgs.specs.Repeated.{repeated}
use Rattle.write_msgs.specs.Commits.{text_item}
use Rattle.write_msgs.specs.CommitParts.{timestamp_of}
use Rattle.read_msgs.specs.declared.options.TableModifiers.{TableModifiers}
use Rattle.read_msgs.specs.declared.options.TableReadOptions.{TableReadOptions}
use Rattle.read_msgs.specs.declared.numbers.TheConstants.{SNAPSHOT_TIME, SELECTED_FIELDS, ROW_RESTRICTION}
use Rattle.read_msgs.specs.Parts.{unsampled}

unfoldable pub table_modifiers_of : List ℕ → Result TableModifiers MsgFault
table_modifiers_of bytes = do
  records ← records_of bytes
  snapshot_time ← nested timestamp_of SNAPSHOT_TIME bytes records
  Ok (record { snapshot_time = snapshot_time })

-- the names of its columns, and its restriction
abbrev pub chosen_in : List ℕ → List Record → Result (List (List ℕ) × List ℕ) MsgFault
chosen_in bytes records = both (repeated (text_item SELECTED_FIELDS) SELECTED_FIELDS bytes records) (text_in ROW_RESTRICTION records)

unfoldable pub table_read_options_of : List ℕ → Result TableReadOptions MsgFault
table_read_options_of bytes = do
  records ← records_of bytes
  parts ← both (chosen_in bytes records) (unsampled records)
  Ok (record { selected_fields = parts.0.0; row_restriction = parts.0.1 })
