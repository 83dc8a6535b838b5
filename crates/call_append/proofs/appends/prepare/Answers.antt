use Rattle.std.proofs.Common.{subst, sym}
use Rattle.row_decode.specs.Answers.{AreRows}
use Rattle.call_append.proofs.AskingLemmas.{prepares_rows, prepares_fault}
use Rattle.call_append.proofs.appends.prepare.Goals as goal

pub returns-in-Ok-clause-value : goal.returns-in-Ok-clause-value
returns-in-Ok-clause-value c =
    let rows = subst (AreRows c.args.binding.now c.args.rows.now) (sym c.from_vec.ensures) c.in-Ok.ensures.value in
    prepares_rows c.args.stream c.args.binding.now c.args.offset c.args.rows.now c.from_vec.result c.size_of.result rows c.size_of.ensures

pub returns-in-Err-clause-value : goal.returns-in-Err-clause-value
returns-in-Err-clause-value c =
    prepares_fault c.args.stream c.args.binding.now c.args.offset c.args.rows.now c.in-Err.fault c.in-Err.ensures.value
