-- The rows that one response takes: those at the front of the rows left.
use Rattle.std.specs.Prelude.{◌≡◌, ℕ, zero, suc, ◌<◌, ◌≤◌, Bool, false, List, ◌++◌, length, take, slice_get, Some}
use Rattle.column_types.specs.declared.column.Column.{Column}
use Rattle.column_types.specs.declared.cell.Cell.{Cell}
use Rattle.column_types.specs.Fields.{projected}
use Rattle.avro_rows.specs.Datum.{datum_of}
use Rattle.read_cursor.specs.Lease.{matching}
use Rattle.read_cursor.specs.Reading.{Reading, rows_left, moved}
use Rattle.row_responses.specs.declared.batch.Batch.{Batch}
use Rattle.row_responses.specs.declared.batch.Batch.TheVariants as batch
use Rattle.row_responses.specs.declared.batch.Step.{Step}
use Rattle.row_responses.specs.declared.batch.Step.TheVariants as step
use Rattle.row_responses.specs.declared.limits.TheConstants.{MAX_RESPONSE_BYTES}
use Rattle.row_responses.specs.Responses.{data_of, taken}

-- the columns that a reader chose
abbrev pub chosen : List Column → Reading → List Column
chosen columns reading = projected reading.lease.fields columns

-- with the datum of the next row behind it
abbrev pub with_row : List Column → Reading → List ℕ → List Cell → List ℕ
with_row columns reading written row = written ++ datum_of (chosen columns reading) row

-- a row is still to give
abbrev pub HasNext : Reading → Type 0
HasNext reading = reading.at < length (matching reading.lease)

abbrev pub IsNext : Reading → List Cell → Type 0
IsNext reading row = slice_get (rows_left reading) 0 ≡ Some row

-- The next row was written, where it is the first or is within the bytes with the others; or not, where it is neither;
-- or there is none.
abbrev pub Steps : List Column → Bool → Reading → Reading → List ℕ → List ℕ → Step → Type 0
Steps columns is_first old new before after step.Written =
    (row : List Cell) × IsNext old row × (after ≡ with_row columns old before row) × (is_first ≡ false → length after ≤ MAX_RESPONSE_BYTES) × (new ≡ moved old 1)
Steps columns is_first old new before after step.Full =
    (row : List Cell) × IsNext old row × (after ≡ before) × (is_first ≡ false) × (MAX_RESPONSE_BYTES < length (with_row columns old before row)) × (new ≡ old)
Steps columns is_first old new before after step.End =
    (old.at ≡ length (matching old.lease)) × (after ≡ before) × (new ≡ old)
Steps columns is_first old new before after (step.PastEnd matched) =
    (length (matching old.lease) < old.at) × (matched ≡ length (matching old.lease)) × (after ≡ before) × (new ≡ old)

abbrev pub batch_from : List ℕ → ℕ → Batch
batch_from written zero = batch.End
batch_from written (suc more) = batch.Rows written (suc more)

-- As many of the rows left as a response takes; or there is none.
abbrev pub Batches : List Column → Reading → Reading → Batch → Type 0
Batches columns old new (batch.Rows written count) =
    (old.at < length (matching old.lease)) × (count ≡ taken (chosen columns old) (rows_left old)) × (count ≤ length (rows_left old)) ×
    (written ≡ data_of (chosen columns old) (take count (rows_left old))) × (new ≡ moved old count)
Batches columns old new batch.End = (old.at ≡ length (matching old.lease)) × (new ≡ old)
Batches columns old new (batch.PastEnd matched) =
    (length (matching old.lease) < old.at) × (matched ≡ length (matching old.lease)) × (new ≡ old)
