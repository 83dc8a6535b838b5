-- The writer schema of a call, bound to the columns of its table: how rows are read, or why none can be.
use Rattle.std.specs.Prelude.{◌≡◌, ℕ, List, [], Option, Some, None, option_and_then, unwrap_or, Result, Ok, Err}
use Rattle.column_types.specs.declared.column.Column.{Column}
use Rattle.row_descriptor.specs.declared.bound.BoundColumn.{BoundColumn}
use Rattle.row_descriptor.specs.declared.field.DescriptorField.{DescriptorField}
use Rattle.row_descriptor.specs.declared.faults.BindFault.{BindFault}
use Rattle.row_descriptor.specs.declared.faults.BindFault.TheVariants as bind
use Rattle.row_descriptor.specs.Descriptor.{descriptor_of}
use Rattle.row_descriptor.specs.Binding.{binding_of}
use Rattle.table_model.specs.declared.reasons.Why.{Why}
use Rattle.table_model.specs.declared.reasons.Why.TheVariants as why
use Rattle.write_msgs.specs.declared.request.AppendRowsRequest.{AppendRowsRequest}
use Rattle.write_msgs.specs.declared.request_parts.ProtoData.{ProtoData}
use Rattle.write_msgs.specs.declared.request_parts.ProtoRows.{ProtoRows}
use Rattle.write_msgs.specs.declared.request_parts.ProtoSchema.{ProtoSchema}

abbrev pub Writer : Type 0
Writer = Result (List BoundColumn) Why

-- before a message of the call named one
abbrev pub no_writer : Writer
no_writer = Err why.NoSchema

-- why a descriptor can't be bound; want of memory is no cause of the definition
abbrev pub bind_cause : BindFault → Why
bind_cause bind.Memory = why.BadDescriptor
bind_cause (bind.ExtraField name) = why.ExtraField name
bind_cause (bind.TypeMismatch name) = why.TypeMismatch name
bind_cause (bind.MissingRequired name) = why.MissingRequired name

abbrev pub bound_or_cause : Result (List BoundColumn) BindFault → Writer
bound_or_cause (Ok binding) = Ok binding
bound_or_cause (Err fault) = Err (bind_cause fault)

abbrev pub writer_by : List Column → Option (List DescriptorField) → Writer
writer_by columns None = Err why.BadDescriptor
writer_by columns (Some fields) = bound_or_cause (binding_of fields columns)

-- a writer schema with the bytes of this descriptor
abbrev pub writer_of : List Column → List ℕ → Writer
writer_of columns bytes = writer_by columns (descriptor_of bytes)

-- The descriptor of the writer schema that a message names, if it names one; a schema without a descriptor has the
-- empty one.
abbrev pub schema_in : ProtoData → Option (List ℕ)
schema_in sent = option_and_then (λ schema. Some (unwrap_or schema.proto_descriptor [])) sent.writer_schema

abbrev pub schema_named : AppendRowsRequest → Option (List ℕ)
schema_named request = option_and_then schema_in request.proto_rows

-- the rows of a message
abbrev pub rows_in : ProtoData → List (List ℕ)
rows_in sent = unwrap_or (option_and_then (λ rows. Some rows.serialized_rows) sent.rows) []

abbrev pub rows_named : AppendRowsRequest → List (List ℕ)
rows_named request = unwrap_or (option_and_then (λ sent. Some (rows_in sent)) request.proto_rows) []

-- The writer schema that counts is the last that a message of the call named, also where it was refused.
abbrev pub last_writer : List Column → Writer → Option (List ℕ) → Writer
last_writer columns before None = before
last_writer columns before (Some bytes) = writer_of columns bytes
