use Rattle.std.proofs.Common.{map, arith, Vec, Global}
use Rattle.std.proofs.lemmas.Result.{err_from_is_err_and}
use Rattle.table_spec.specs.Spec.{IsSpec}
use Rattle.table_spec.specs.declared.spec.TableSpec.{TableSpec}
use Rattle.command_line.specs.Tables.{AreSpecs}
use Rattle.command_line.proofs.AnswerLemmas.{passed_on}
use Rattle.command_line.proofs.TableLemmas.{spec_at, more_at}
use Rattle.command_line.proofs.tables.specs_of.Goals as goal

pub returns-in_err-spec_of : goal.returns-in_err-spec_of
returns-in_err-spec_of c =
    let p = err_from_is_err_and c.from_residual-in_err-spec_of.result c.from_residual-in_err-spec_of.ensures.1 in
    rw (p.1, p.2) (passed_on (λ s. s) (IsSpec _) (λ (t : Vec TableSpec Global). t.items) (AreSpecs (map (λ t. t.now) c.args.texts.now)) c.in_err-spec_of.field-0.0 c.in_err-spec_of.ensures
    (λ w are. spec_at c.args.texts.now w c.loop-text.text-index _ are (omega arith)))

pub loop-text-preserved : goal.loop-text-preserved
loop-text-preserved c =
    more_at c.args.texts.now c.loop-text.text-index _ c.loop-text.tables.items c.push.new.self.items c.in_ok-spec_of.field-0 (omega arith) c.loop-text.invariant c.in_ok-spec_of.ensures c.in_ok-push.ensures.items
