-- What rows ask of a table, where all can be read and where some are refused.
use Rattle.std.proofs.Common.{◌≡◌, ℕ, ℤ, ◌≤◌, List, length, sum_by, Option, Result, Ok, Err, sym, ap, subst, ◌∙◌, arith}
use Rattle.std.proofs.lemmas.List.{length-take}
use Rattle.column_types.specs.declared.cell.Cell.{Cell}
use Rattle.row_decode.specs.declared.faults.RowFault.{RowFault}
use Rattle.row_decode.specs.declared.faults.RowsFault.{RowsFault}
use Rattle.row_decode.specs.declared.faults.RowsFault.TheVariants as fault
use Rattle.row_decode.specs.Rows.{faults_of}
use Rattle.row_decode.specs.Answers.{AreRows, RefusesRows}
use Rattle.row_descriptor.specs.declared.bound.BoundColumn.{BoundColumn}
use Rattle.table_model.specs.declared.commands.Command.TheVariants as command
use Rattle.table_model.specs.declared.streams.StreamRef.{StreamRef}
use Rattle.call_append.specs.Asking.{Asked, Prepares, asked_by, asked_with, to_append}
use Rattle.call_append.proofs.RowsLemmas.{all_rows, first_faults}

pub prepares_rows : (stream : StreamRef) (binding : List BoundColumn) (offset : Option ℤ) (rows : List (List ℕ)) (decoded : List (List Cell)) (bytes : ℕ)
    → AreRows binding rows decoded → bytes ≡ sum_by length rows → asked_by stream (Ok binding) offset rows ≡ to_append (command.Append stream offset decoded bytes)
prepares_rows stream binding offset rows decoded bytes are size =
    ap (λ (r : Result (List (List Cell)) (List RowFault)). asked_with stream offset (sum_by length rows) r) (all_rows binding rows decoded are)
    ∙ ap (λ (n : ℕ). to_append (command.Append stream offset decoded n)) (sym size)

pub prepares_fault : (stream : StreamRef) (binding : List BoundColumn) (offset : Option ℤ) (rows : List (List ℕ)) (f : RowsFault) → RefusesRows binding rows f → Prepares stream binding offset rows (Err f)
prepares_fault stream binding offset rows fault.Memory h = tt
prepares_fault stream binding offset rows (fault.Refused faults) h = (
  ap (λ (r : Result (List (List Cell)) (List RowFault)). asked_with stream offset (sum_by length rows) r) (first_faults binding rows faults h),
  omega (arith, ap length h.first, length-take 100 (faults_of binding rows)),
)

-- no more rows are named
pub refused_few : (stream : StreamRef) (binding : List BoundColumn) (offset : Option ℤ) (rows : List (List ℕ)) (f : RowsFault) (faults first : List RowFault)
    → Prepares stream binding offset rows (Err f) → f ≡ fault.Refused faults → first ≡ faults → length first ≤ 100
refused_few stream binding offset rows f faults first h is same =
    let due = subst (λ (g : RowsFault). Prepares stream binding offset rows (Err g)) is h in
    omega (arith, due.1, ap length same)
