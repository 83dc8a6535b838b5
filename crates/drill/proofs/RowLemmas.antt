-- Counts of a writer's rows.
use Rattle.std.proofs.Common.{◌≡◌, ℕ, zero, suc, ◌+◌, ◌*◌, ◌≤◌, ap, arith}
use Rattle.drill.specs.Rows.{batch_length, rows_before}

-- one batch more
pub rows_more : (writer batch : ℕ) → rows_before writer (batch + 1) ≡ rows_before writer batch + batch_length writer batch
unfolding rows_before
rows_more writer batch =
    let next : batch + 1 ≡ suc batch = omega arith in
    ap (rows_before writer) next

-- a batch has at most eight rows
pub batch_few : (writer batch : ℕ) → batch_length writer batch ≤ 8
batch_few writer batch = omega arith

pub rows_few : (writer batch : ℕ) → rows_before writer batch ≤ 8 * batch
unfolding rows_before
rows_few writer zero = omega arith
rows_few writer (suc batch) = omega (arith, rows_few writer batch, batch_few writer batch)
