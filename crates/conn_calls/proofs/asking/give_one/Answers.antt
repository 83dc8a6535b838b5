-- Each way in which a call gave its answer.
use Rattle.std.proofs.Common.{◌≡◌, ◌∙◌, ap, sym, subst, refl, true, Result, Ok}
use Rattle.outside.specs.declared.wants.Memory.{Memory}
use Rattle.call_read.specs.declared.bodies.RowsAnswer.{RowsAnswer}
use Rattle.call_read.specs.declared.bodies.RowsAnswer.TheVariants as rows_answer
use Rattle.conn_service.specs.Quiet.{reads_rows}
use Rattle.conn_calls.specs.declared.asked.Asked.TheVariants as asked
use Rattle.conn_calls.specs.Answering.{BodiesRead, GivesOne, told_by}
use Rattle.conn_calls.specs.Dealing.{dealing_of}
use Rattle.conn_calls.proofs.asking.give_one.Goals as goal

pub returns-in-Ok-End : goal.returns-in-Ok-End
returns-in-Ok-End c wanted reads =
    let P : Result RowsAnswer Memory → Type 0 = λ rows. GivesOne c.give_answer.result (told_by rows) c.args.id wanted c.args.begun (dealing_of c.args.conn.now) (dealing_of c.give_answer.new.conn) in
    let is : c.args.rows ≡ Ok (rows_answer.End c.in-Ok-End.answer) = c.in-Ok-End.is ∙ ap Ok c.in-Ok-End.field-0-is in
    subst P (sym is) (c.give_answer.ensures wanted)

pub returns-in-Ok : goal.returns-in-Ok
returns-in-Ok c wanted reads =
    let P : Result RowsAnswer Memory → Type 0 = λ rows. GivesOne asked.Over (told_by rows) c.args.id wanted c.args.begun (dealing_of c.args.conn.now) (dealing_of c.give_body.new.conn) in
    let is : c.args.rows ≡ Ok (rows_answer.Body c.in-Ok-Body.body) = c.in-Ok-Body.is ∙ ap Ok c.in-Ok-Body.field-0-is in
    let read : reads_rows wanted ≡ true = subst (BodiesRead wanted) is reads in
    subst P (sym is) (refl, c.in-Ok.ensures wanted read)
