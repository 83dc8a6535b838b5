use Rattle.std.proofs.Common.{◌<◌, ◌≡◌, length, arith, lit<, ◌∙◌, take}
use Rattle.row_decode.specs.Rows.{faults_from, faults_of}
use Rattle.row_decode.proofs.RowLemmas.{faults_from-some, some-first, Refuses-other}
use Rattle.row_decode.proofs.rows.fault_of.Goals as goal

pub returns-in_ok-faults-in_default : goal.returns-in_ok-faults-in_default
returns-in_ok-faults-in_default c =
    let bad = c.requires.bad in
    let many : 0 < length (faults_from c.args.binding.now 0 c.args.rows.now) = faults_from-some c.args.binding.now 0 c.args.rows.now bad.0 bad.1 c.args.why bad.2 bad.3 (Refuses-other c.args.why _ c.in_default.not-Memory bad.4) in
    let first : c.from_vec.result ≡ take 100 (faults_of c.args.binding.now c.args.rows.now) = c.from_vec.ensures ∙ c.in_ok-faults-in_default.ensures in
    record { first = first; some = some-first 100 c.from_vec.result _ first (lit< tt) many }
