use Rattle.std.proofs.Common.{◌≡◌, length, drop, ap, arith}
use Rattle.std.proofs.lemmas.List.{drop_all}
use Rattle.std.proofs.lemmas.Grind.{common_steps}
use Rattle.row_decode.specs.Rows.{faults_from}
use Rattle.row_decode.proofs.RowLemmas.{first-full, first-all}
use Rattle.row_decode.proofs.rows.first_faults.Goals as goal

pub returns-then-len-eq-MAX_FAULTS : goal.returns-then-len-eq-MAX_FAULTS
returns-then-len-eq-MAX_FAULTS c =
    let full : length c.loop-index.faults.items ≡ 100 = grind (arith, common_steps) in
    first-full 100 c.loop-index.faults.items _ _ c.loop-index.invariant.0 full

pub returns : goal.returns
returns c = first-all 100 c.loop-index.faults.items _ _ c.loop-index.invariant.0 (ap (faults_from c.args.binding.now c.loop-index.index) (drop_all c.loop-index.index c.args.rows.now c.loop-index-test.false)) c.loop-index.invariant.1
