-- A response is far shorter than a frame may be.
use Rattle.std.proofs.Common.{◌≡◌, ℕ, ℤ, pos, zero, suc, ◌+◌, ◌*◌, ◌/◌, ◌%◌, ◌≤◌, ◌<◌, ◌^◌, Bool, true, false, cond, eqb, List, [], ◌∷◌, ◌++◌, length, map, take, sum_by, Option, Some, None, Result, Ok, Err, IfOk, refl, sym, ap, subst, ◌∙◌, length-append, arith}
use Rattle.std.specs.Prelude.{◌==◌, if◌then◌else◌, slice_get, option_and_then, unwrap_or, codes}
use Rattle.std.specs.Fmt.{decimal, digits, digits_onto, digit_glyph}
use Rattle.std.specs.Option.{option_map}
use Rattle.std.specs.Int.{w64, cast_unsigned, cast_signed}
use Rattle.std.specs.Str.{chars}
use Rattle.std.proofs.Math.Utf8.{encode, encodes}
use Rattle.std.proofs.lemmas.Str.{length-encode, len_utf8_bounds}
use Rattle.std.proofs.lemmas.List.{length-take}
use Rattle.std.proofs.lemmas.List.Concat.{length-flat_map}
use Rattle.std.proofs.lemmas.List.Sums.{sum_by-cons, sum_by-append}
use Rattle.outside.specs.declared.wants.Memory.{Memory}
use Rattle.column_types.specs.declared.cell.Cell.{Cell}
use Rattle.column_types.specs.declared.column.Column.{Column}
use Rattle.proto_fields.specs.Record.{Record, Varint, Len, record_bytes}
use Rattle.proto_fields.specs.Varint.{varint_of}
use Rattle.proto_fields.specs.Message.{message_of}
use Rattle.proto_fields.proofs.VarintLemmas.{length-varint_of}
use Rattle.row_decode.specs.declared.faults.RowFault.{RowFault}
use Rattle.row_decode.specs.declared.faults.RowWhy.{RowWhy}
use Rattle.row_decode.specs.declared.faults.RowWhy.TheVariants as row
use Rattle.row_decode.specs.declared.faults.RowsFault.{RowsFault}
use Rattle.row_decode.specs.declared.faults.RowsFault.TheVariants as fault
use Rattle.row_decode.specs.Rows.{faults_of}
use Rattle.row_decode.specs.Answers.{RefusesRows}
use Rattle.row_descriptor.specs.declared.bound.BoundColumn.{BoundColumn}
use Rattle.table_model.specs.declared.reasons.Why.{Why}
use Rattle.table_model.specs.declared.reasons.Why.TheVariants as why
use Rattle.table_model.specs.declared.replies.Reply.{Reply}
use Rattle.table_model.specs.declared.replies.Reply.TheVariants as reply
use Rattle.table_model.specs.Reasons.{code_of, phrase_of}
use Rattle.table_model.specs.Table.{Table}
use Rattle.write_msgs.specs.declared.response.AppendRowsResponse.{AppendRowsResponse}
use Rattle.write_msgs.specs.declared.response_parts.RowError.{RowError}
use Rattle.write_msgs.specs.Writing.{field_of, bytes_field, text_field, varint_field, int_field, message_field, repeated_field}
use Rattle.write_msgs.specs.RequestBytes.{int64_value_bytes}
use Rattle.write_msgs.specs.ResponseBytes.{append_result_bytes, status_bytes, row_error_bytes, append_rows_response_bytes}
use Rattle.call_append.specs.Texts.{shown, carried_in, cause_text, column_name, row_text}
use Rattle.call_append.specs.declared.appends.NoResponse.{NoResponse}
use Rattle.call_append.specs.declared.appends.NoResponse.TheVariants as none
use Rattle.call_append.specs.Response.{accepted, refused, row_error, told, told_without_rows}
use Rattle.call_append.specs.Message.{Outcome, Responds}

abbrev size : Record → ℕ
size r = length (record_bytes r)

message_size : (rs : List Record) → length (message_of rs) ≡ sum_by size rs
message_size rs = length-flat_map record_bytes rs

bytes_size : (number : ℕ) (bytes : List ℕ) → size (bytes_field number bytes) ≤ 20 + length bytes
bytes_size number bytes =
    let tag : List ℕ = varint_of (number * 8 + 2) in
    let len : List ℕ = varint_of (length bytes) in
    omega (arith, length-append tag (len ++ bytes), length-append len bytes, length-varint_of (number * 8 + 2), length-varint_of (length bytes))

varint_size : (number n : ℕ) → size (field_of number (Varint n)) ≤ 20
varint_size number n =
    let tag : List ℕ = varint_of (number * 8 + 0) in
    omega (arith, length-append tag (varint_of n), length-varint_of (number * 8 + 0), length-varint_of n)

text_size : (number : ℕ) (bytes : List ℕ) → sum_by size (text_field number bytes) ≤ 20 + length bytes
text_size number [] = omega arith
text_size number (b ∷ bytes) = omega (arith, bytes_size number (b ∷ bytes), sum_by-cons size (bytes_field number (b ∷ bytes)) [])

int_size : (number : ℕ) (n : ℤ) → sum_by size (int_field number n) ≤ 20
int_size number n = either (eqb (cast_unsigned w64 n) 0)
  where
    either : (zero : Bool) → sum_by size (cond zero [] (field_of number (Varint (cast_unsigned w64 n)) ∷ [])) ≤ 20
    either true = omega arith
    either false = omega (arith, varint_size number (cast_unsigned w64 n), sum_by-cons size (field_of number (Varint (cast_unsigned w64 n))) [])

some_message_size : (number : ℕ) (bytes : List ℕ) → sum_by size (message_field number (Some bytes)) ≤ 20 + length bytes
some_message_size number bytes = omega (arith, bytes_size number bytes, sum_by-cons size (bytes_field number bytes) [])

int64_size : (n : ℤ) → length (int64_value_bytes n) ≤ 20
unfolding int64_value_bytes
int64_size n = omega (arith, message_size (int_field 1 n), int_size 1 n)

offset_size : (number : ℕ) (o : Option ℤ) → sum_by size (message_field number (option_map int64_value_bytes o)) ≤ 40
offset_size number None = omega arith
offset_size number (Some n) = omega (arith, some_message_size number (int64_value_bytes n), int64_size n)

-- texts
shown_size : (name : List ℕ) → length (shown name) ≤ 512
shown_size name = omega (arith, all (take 128 (chars name)), length-take 128 (chars name))
  where
    all : (cs : List ℕ) → length (encodes cs) ≤ 4 * length cs
    all [] = omega arith
    all (c ∷ cs) = omega (arith, length-append (encode c) (encodes cs), length-encode c, (len_utf8_bounds c).1, all cs)

phrase_size : (cause : Why) → length (phrase_of cause) ≤ 40
phrase_size why.BadName = omega arith
phrase_size why.NoTable = omega arith
phrase_size why.NoStream = omega arith
phrase_size why.NoRead = omega arith
phrase_size why.Expired = omega arith
phrase_size why.NoSchema = omega arith
phrase_size why.BadDescriptor = omega arith
phrase_size (why.ExtraField x) = omega arith
phrase_size (why.TypeMismatch x) = omega arith
phrase_size (why.MissingRequired x) = omega arith
phrase_size why.BadRows = omega arith
phrase_size why.NoRows = omega arith
phrase_size why.DefaultOffset = omega arith
phrase_size why.NegativeOffset = omega arith
phrase_size why.NoOffset = omega arith
phrase_size why.AlreadyWritten = omega arith
phrase_size why.PastEnd = omega arith
phrase_size why.Finalised = omega arith
phrase_size why.FullRows = omega arith
phrase_size why.FullEntries = omega arith
phrase_size why.FullStreams = omega arith
phrase_size why.FullSessions = omega arith
phrase_size why.FullNodes = omega arith
phrase_size why.WrongKind = omega arith
phrase_size why.BadKind = omega arith
phrase_size why.NoStreams = omega arith
phrase_size why.Twice = omega arith
phrase_size why.OtherTable = omega arith
phrase_size why.BadFormat = omega arith
phrase_size why.BadTime = omega arith
phrase_size why.NegativeCount = omega arith
phrase_size why.Long = omega arith
phrase_size (why.Syntax x) = omega arith
phrase_size (why.UnknownColumn x) = omega arith
phrase_size (why.IllTyped x) = omega arith

one_digit : (last : Bool) (k digit : ℕ) (acc more : List ℕ) → length more ≤ k + length (digit ∷ acc) → length (if last then digit ∷ acc else more) ≤ suc k + length acc
one_digit true k digit acc more few = omega arith
one_digit false k digit acc more few = omega (arith, few)

digits_size : (k n : ℕ) (acc : List ℕ) → length (digits_onto k 10 false n acc) ≤ k + length acc
digits_size zero n acc = omega arith
digits_size (suc k) n acc =
    let digit = digit_glyph false (n % 10) in
    one_digit (n / 10 == 0) k digit acc (digits_onto k 10 false (n / 10) (digit ∷ acc)) (digits_size k (n / 10) (digit ∷ acc))

decimal_size : (n : ℕ) → length (decimal n) ≤ 64
unfolding digits
decimal_size n = omega (arith, digits_size 64 n [])

carried_size : (cause : Why) → length (carried_in cause) ≤ 512
carried_size (why.ExtraField x) = shown_size x
carried_size (why.TypeMismatch x) = shown_size x
carried_size (why.MissingRequired x) = shown_size x
carried_size (why.UnknownColumn x) = shown_size x
carried_size (why.IllTyped x) = shown_size x
carried_size (why.Syntax at) = omega (arith, decimal_size at)
carried_size _ = omega arith

pub cause_size : (cause : Why) → length (cause_text cause) ≤ 552
cause_size cause = omega (arith, length-append (phrase_of cause) (carried_in cause), phrase_size cause, carried_size cause)

column_size : (columns : List Column) (at : ℕ) → length (column_name columns at) ≤ 512
column_size columns at = of (slice_get columns at)
  where
    of : (o : Option Column) → length (unwrap_or (option_and_then (λ column. Some (shown column.name)) o) []) ≤ 512
    of (Some column) = shown_size column.name
    of None = omega arith

with_column : (phrase : List ℕ) (columns : List Column) (at : ℕ) → length phrase ≤ 40 → length (phrase ++ column_name columns at) ≤ 552
with_column phrase columns at small = omega (arith, small, length-append phrase (column_name columns at), column_size columns at)

row_size : (columns : List Column) (cause : RowWhy) → length (row_text columns cause) ≤ 552
row_size columns row.Memory = omega arith
row_size columns row.Malformed = omega arith
row_size columns (row.BadText at) = with_column (codes "bad text in column: ") columns at (omega arith)
row_size columns (row.OutOfRange at) = with_column (codes "value out of range in column: ") columns at (omega arith)
row_size columns (row.Missing at) = with_column (codes "no value in required column: ") columns at (omega arith)

-- what stands in a response
result_size : (offset : Option ℤ) → length (append_result_bytes (record { offset = offset })) ≤ 40
unfolding append_result_bytes
result_size offset = omega (arith, message_size (message_field 1 (option_map int64_value_bytes offset)), offset_size 1 offset)

status_size : (code : ℤ) (text : List ℕ) → length text ≤ 552 → length (status_bytes (record { code = code; message = text })) ≤ 600
unfolding status_bytes
status_size code text small =
    omega (arith, small, message_size (int_field 1 code ++ text_field 2 text), sum_by-append size (int_field 1 code) (text_field 2 text), int_size 1 code, text_size 2 text)

row_error_size : (columns : List Column) (fault : RowFault) → length (row_error_bytes (row_error columns fault)) ≤ 640
unfolding row_error_bytes
row_error_size columns fault =
    let e = row_error columns fault in
    omega (
      arith,
      message_size (int_field 1 e.index ++ int_field 2 e.code ++ text_field 3 e.message),
      sum_by-append size (int_field 1 e.index ++ int_field 2 e.code) (text_field 3 e.message),
      sum_by-append size (int_field 1 e.index) (int_field 2 e.code),
      int_size 1 e.index,
      int_size 2 e.code,
      text_size 3 e.message,
      row_size columns fault.why,
    )

row_errors_size : (number : ℕ) (columns : List Column) (faults : List RowFault) → sum_by size (repeated_field number (map row_error_bytes (map (row_error columns) faults))) ≤ 700 * length faults
row_errors_size number columns [] = omega arith
row_errors_size number columns (fault ∷ faults) =
    let bytes : List ℕ = row_error_bytes (row_error columns fault) in
    omega (
      arith,
      row_errors_size number columns faults,
      bytes_size number bytes,
      row_error_size columns fault,
      sum_by-cons size (bytes_field number bytes) (repeated_field number (map row_error_bytes (map (row_error columns) faults))),
    )

abbrev pub IsShort : AppendRowsResponse → Type 0
IsShort response = length (append_rows_response_bytes response) < 2 ^ 32

parts_size : (a b c d : List Record) → length (message_of (a ++ b ++ c ++ d)) ≡ sum_by size a + (sum_by size b + (sum_by size c + sum_by size d))
parts_size a b c d =
    message_size (a ++ b ++ c ++ d) ∙ omega (arith, sum_by-append size (a ++ b ++ c) d, sum_by-append size (a ++ b) c, sum_by-append size a b)

pub refused_short : (columns : List Column) (cause : Why) (faults : List RowFault) → length faults ≤ 100 → IsShort (refused columns cause faults)
unfolding append_rows_response_bytes
refused_short columns cause faults few =
    let status : List ℕ = status_bytes (record { code = pos (code_of cause); message = cause_text cause }) in
    let b : List Record = message_field 2 (Some status) in
    let c : List Record = repeated_field 4 (map row_error_bytes (map (row_error columns) faults)) in
    omega (arith, few, parts_size [] b c [], some_message_size 2 status, status_size (pos (code_of cause)) (cause_text cause) (cause_size cause), row_errors_size 4 columns faults)

pub accepted_short : (offset : Option ℕ) → IsShort (accepted offset)
unfolding append_rows_response_bytes
accepted_short offset =
    let result : List ℕ = append_result_bytes (record { offset = option_map (cast_signed w64) offset }) in
    let a : List Record = message_field 1 (Some result) in
    omega (arith, parts_size a [] [] [], some_message_size 1 result, result_size (option_map (cast_signed w64) offset))

pub told_short : (columns : List Column) (r : Reply) → IsShort (told columns r)
told_short columns (reply.Appended offset) = accepted_short offset
told_short columns (reply.Refused refusal) = refused_short columns refusal.why [] (omega arith)
told_short columns (reply.Created stream moment) = accepted_short None
told_short columns (reply.Flushed offset) = accepted_short None
told_short columns (reply.Finalised rows) = accepted_short None
told_short columns (reply.Committed moment) = accepted_short None
told_short columns (reply.NotCommitted errors) = accepted_short None
told_short columns (reply.Stream kind created committed) = accepted_short None
told_short columns (reply.Session session roots expires) = accepted_short None
told_short columns (reply.Children left right) = accepted_short None
told_short columns reply.NoSplit = accepted_short None

-- what is due is short, and so is what was given
pub responds_short : (old new : Table) (due : Outcome) (r : Result AppendRowsResponse NoResponse) → IsShort due.response → Responds old new due r → IfOk r IsShort
responds_short old new due (Ok response) short h = subst IsShort (sym h.0) short
responds_short old new due (Err none.Undone) short h = tt
responds_short old new due (Err none.Lost) short h = tt

pub told_without_short : (columns : List Column) (cause : Why) (faults : List RowFault) (r : Reply) → length faults ≤ 100 → IsShort (told_without_rows columns cause faults r)
told_without_short columns cause faults (reply.Refused refusal) few = refused_short columns refusal.why [] (omega arith)
told_without_short columns cause faults (reply.Created stream moment) few = refused_short columns cause faults few
told_without_short columns cause faults (reply.Appended offset) few = refused_short columns cause faults few
told_without_short columns cause faults (reply.Flushed offset) few = refused_short columns cause faults few
told_without_short columns cause faults (reply.Finalised rows) few = refused_short columns cause faults few
told_without_short columns cause faults (reply.Committed moment) few = refused_short columns cause faults few
told_without_short columns cause faults (reply.NotCommitted errors) few = refused_short columns cause faults few
told_without_short columns cause faults (reply.Stream kind created committed) few = refused_short columns cause faults few
told_without_short columns cause faults (reply.Session session roots expires) few = refused_short columns cause faults few
told_without_short columns cause faults (reply.Children left right) few = refused_short columns cause faults few
told_without_short columns cause faults reply.NoSplit few = refused_short columns cause faults few

pub text_short : (cause : Why) (text : Result (List ℕ) Memory) → IfOk text (λ t. t ≡ cause_text cause) → IfOk text (λ t. length t ≤ 1024)
text_short cause (Ok text) is = omega (arith, ap length is, cause_size cause)
text_short cause (Err memory) is = tt
