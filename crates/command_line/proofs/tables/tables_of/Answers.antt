use Rattle.std.proofs.Common.{List, map, Vec, Global}
use Rattle.std.proofs.lemmas.Result.{err_from_is_err_and}
use Rattle.table_spec.specs.declared.spec.TableSpec.{TableSpec}
use Rattle.command_line.specs.Tables.{AreSpecs, AreTables}
use Rattle.command_line.proofs.AnswerLemmas.{passed_on}
use Rattle.command_line.proofs.tables.tables_of.Goals as goal

pub returns-in_err-tables : goal.returns-in_err-tables
returns-in_err-tables c =
    let p = err_from_is_err_and c.from_residual.result c.from_residual.ensures.1 in
    rw (p.1, p.2) (passed_on (λ (t : Vec TableSpec Global). t.items) (AreSpecs (map (λ t. t.now) c.args.texts.now)) (λ (t : List TableSpec). t)
    (AreTables (map (λ t. t.now) c.args.texts.now)) c.in_err-tables.field-0.0 c.in_err-tables.ensures (λ w are. (w, are.specs)))
