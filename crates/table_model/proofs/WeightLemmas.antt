-- A row weighs more than nothing.
use Rattle.std.proofs.Common.{ℕ, ◌+◌, ◌*◌, ◌≤◌, Bool, true, false, List, [], length, arith}
use Rattle.std.specs.Prelude.{if◌then◌else◌}
use Rattle.std.proofs.lemmas.List.Sums.{sum_by-le-sum_by}
use Rattle.std.proofs.lemmas.Nat.{mul-le}
use Rattle.column_types.specs.declared.row.Row.{Row}
use Rattle.table_model.specs.declared.limits.TheConstants.{ROW_OVERHEAD, COLUMN_OVERHEAD}
use Rattle.table_model.specs.declared.entries.Change.{Change}
use Rattle.table_model.specs.declared.entries.Change.TheVariants as change
use Rattle.table_model.specs.declared.streams.StreamRef.{StreamRef}
use Rattle.table_model.specs.Streams.{is_one_stream}
use Rattle.table_model.specs.History.{History}
use Rattle.table_model.specs.Content.{rows_onto, end_of}
use Rattle.table_model.specs.Facts.{size_of_rows, size_added, weight_of}
use Rattle.table_model.proofs.WalkLemmas.{end_is_sum}

pub length-le-size : (columns : ℕ) (rows : List Row) (bytes : ℕ) → length rows ≤ size_of_rows columns (length rows) bytes
length-le-size columns rows bytes =
    let least = mul-le 1 (length rows) (ROW_OVERHEAD + COLUMN_OVERHEAD * columns) (length rows) (omega arith) (omega arith) in
    omega (arith, least)

rows_onto-le-size : (columns : ℕ) (on : StreamRef) (c : Change) → length (rows_onto on c) ≤ size_added columns c
rows_onto-le-size columns on (change.Append to offset rows bytes) = either (is_one_stream on to)
  where
    either : (b : Bool) → length (if b then rows else []) ≤ size_of_rows columns (length rows) bytes
    either true = length-le-size columns rows bytes
    either false = omega arith
rows_onto-le-size columns on (change.Create number kind) = omega arith
rows_onto-le-size columns on (change.Flush to upto) = omega arith
rows_onto-le-size columns on (change.Finalise to) = omega arith
rows_onto-le-size columns on (change.Commit others) = omega arith
rows_onto-le-size columns on (change.Session number at pred fields roots) = omega arith
rows_onto-le-size columns on (change.Split session node left right) = omega arith

-- a stream has no more rows than all rows weigh
pub end_of-le-weight : (columns : ℕ) (history : History) (on : StreamRef) → end_of history on ≤ weight_of columns history
end_of-le-weight columns history on =
    rw (end_is_sum history on) (
    sum_by-le-sum_by (λ entry. length (rows_onto on entry.change)) (λ entry. size_added columns entry.change) history (λ entry. rows_onto-le-size columns on entry.change))
