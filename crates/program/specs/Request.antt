-- What one AppendRowsRequest asks of a table of opaque rows.
use Rattle.std.specs.Prelude.{◌≡◌, Result, Ok, Err, ℕ, ℤ, Bool, true, false, not, List, [], Option, None, Some, is_some, unwrap_or, if◌then◌else◌}
use Rattle.std.specs.Int.{w64, cast_signed}
use Rattle.std.specs.Str.{is_utf8}
use Rattle.std.specs.Result.{result_ok}
use Rattle.proto_fields.specs.Record.{Record}
use Rattle.proto_fields.specs.Chain.{◌>>=◌}
use Rattle.proto_fields.specs.Message.{fields_of}
use Rattle.proto_fields.specs.Selection.{merged_of, last_of, payloads_of, varints_of}
use Rattle.program.specs.declared.requests.Request.{Request}
use Rattle.program.specs.declared.requests.RequestFault.{RequestFault}
use Rattle.program.specs.declared.requests.RequestFault.TheVariants as fault
use Rattle.program.specs.declared.messages.TheConstants.{WRITE_STREAM, OFFSET, PROTO_ROWS, ARROW_ROWS, ROWS, SERIALIZED_ROWS, VALUE}

-- the fields of a message, where it can be read
abbrev pub records_of : List ℕ → Option (List Record)
records_of bytes = result_ok (fields_of bytes)

-- a message within a message: all its occurrences joined, and no field where there is none
abbrev pub inner_records : ℕ → List Record → Option (List Record)
inner_records number records = records_of (unwrap_or (merged_of (payloads_of number records)) [])

-- an Int64Value: absent, or the number that its field 1 gives, which is 0 where it has none
abbrev pub wrapped_int64 : Option (List ℕ) → Option (Option ℤ)
wrapped_int64 None = Some None
wrapped_int64 (Some bytes) = records_of bytes >>= λ records. Some (Some (cast_signed w64 (unwrap_or (last_of (varints_of VALUE records)) 0)))

-- a text that counts is UTF-8
abbrev pub is_text : Option (List ℕ) → Bool
is_text None = true
is_text (Some bytes) = is_utf8 bytes

-- no rows in the ARROW format
abbrev pub has_arrow_rows : List Record → Bool
has_arrow_rows records = is_some (last_of (payloads_of ARROW_ROWS records))

-- the rows of a ProtoData
abbrev pub rows_in : List Record → Option (List (List ℕ))
rows_in records = do
  proto_rows ← inner_records PROTO_ROWS records
  rows ← inner_records ROWS proto_rows
  Some (payloads_of SERIALIZED_ROWS rows)

-- what the fields of an AppendRowsRequest ask
abbrev pub request_in : List Record → Option Request
request_in records = do
  offset ← wrapped_int64 (merged_of (payloads_of OFFSET records))
  rows ← rows_in records
  Some (record { offset = offset; rows = rows })

-- what a message asks. It can't be read where it or a message within it is no message, where its write stream is no
-- text, or where it has rows in the ARROW format
unfoldable pub request_of : List ℕ → Option Request
request_of bytes = do
  records ← records_of bytes
  if not (is_text (last_of (payloads_of WRITE_STREAM records))) then None else if has_arrow_rows records then None else request_in records

-- what was read is what the definition gives, unless memory was wanting
abbrev pub ReadsAs : {X Y : Type 0} → (X → Y) → Result X RequestFault → Option Y → Type 0
ReadsAs view (Ok x) read = read ≡ Some (view x)
ReadsAs view (Err fault.Unreadable) read = read ≡ None
ReadsAs view (Err fault.Memory) read = Unit {0}
