use Rattle.rows_body.specs.Rows.{items_of}
use Rattle.rows_body.proofs.RowsLemmas.{in_order}
use Rattle.rows_body.proofs.law.polls_go_in_order.Goals as goal

pub returns : goal.returns
returns c = λ columns reading items left taken. in_order (items_of columns reading) items left taken
