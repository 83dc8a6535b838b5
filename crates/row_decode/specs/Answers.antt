-- What was answered is what the definition gives, unless memory ran out.
use Rattle.std.specs.Prelude.{◌≡◌, ℕ, ◌<◌, List, length, take, map, Result, Ok, Err, Some, slice_get}
use Rattle.column_types.specs.declared.cell.Cell.{Cell}
use Rattle.proto_fields.specs.declared.faults.FieldFault.{FieldFault}
use Rattle.proto_fields.specs.declared.faults.FieldFault.TheVariants as field
use Rattle.row_descriptor.specs.declared.bound.BoundColumn.{BoundColumn}
use Rattle.row_decode.specs.declared.faults.RowWhy.{RowWhy}
use Rattle.row_decode.specs.declared.faults.RowWhy.TheVariants as why
use Rattle.row_decode.specs.declared.faults.RowFault.{RowFault}
use Rattle.row_decode.specs.declared.faults.RowsFault.{RowsFault}
use Rattle.row_decode.specs.declared.faults.RowsFault.TheVariants as fault
use Rattle.row_decode.specs.declared.faults.TheConstants.{MAX_FAULTS}
use Rattle.row_decode.specs.Row.{row_of}
use Rattle.row_decode.specs.Rows.{faults_of}

-- bytes that are no message are malformed
abbrev pub why_of : FieldFault → RowWhy
why_of field.Memory = why.Memory
why_of (field.BadProto at) = why.Malformed

abbrev pub Refuses : {Y : Type 0} → RowWhy → Result Y RowWhy → Type 0
Refuses why.Memory answer = Unit {0}
Refuses why.Malformed answer = answer ≡ Err why.Malformed
Refuses (why.BadText column) answer = answer ≡ Err (why.BadText column)
Refuses (why.OutOfRange column) answer = answer ≡ Err (why.OutOfRange column)
Refuses (why.Missing column) answer = answer ≡ Err (why.Missing column)

abbrev pub Decodes : {X Y : Type 0} → (X → Y) → Result X RowWhy → Result Y RowWhy → Type 0
Decodes view (Ok x) answer = answer ≡ Ok (view x)
Decodes view (Err e) answer = Refuses e answer

-- each row is decoded
abbrev pub AreRows : List BoundColumn → List (List ℕ) → List (List Cell) → Type 0
AreRows binding rows decoded = map (row_of binding) rows ≡ map Ok decoded

-- a row has a fault, and these are the first
pub record AreFirstFaults (binding : List BoundColumn) (rows : List (List ℕ)) (faults : List RowFault) : Type 0 where
  pub first : faults ≡ take MAX_FAULTS (faults_of binding rows)
  pub some : 0 < length faults

abbrev pub RefusesRows : List BoundColumn → List (List ℕ) → RowsFault → Type 0
RefusesRows binding rows fault.Memory = Unit {0}
RefusesRows binding rows (fault.Refused faults) = AreFirstFaults binding rows faults

-- some row is refused for this reason
abbrev pub IsRefused : List BoundColumn → List (List ℕ) → RowWhy → Type 0
IsRefused binding rows e = (at : ℕ) × (row : List ℕ) × (at < length rows) × (slice_get rows at ≡ Some row) × Refuses e (row_of binding row)
