use Rattle.std.proofs.Common.{◌≡◌, ◌≤◌, ◌++◌, drop, length}
use Rattle.row_decode.specs.Rows.{faults_from}
use Rattle.row_decode.proofs.rows.first_faults.Given as goal

abbrev pub invariant-loop-index : goal.invariant-loop-index
invariant-loop-index l = (l.faults.items ++ faults_from l.binding l.index (drop l.index l.rows) ≡ faults_from l.binding 0 l.rows) × (length l.faults.items ≤ 100)
