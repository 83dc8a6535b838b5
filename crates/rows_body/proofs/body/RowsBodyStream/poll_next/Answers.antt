-- What a poll gives may be given, and what may come behind it too.
use Rattle.rows_body.proofs.RowsLemmas.{given_first, given_behind}
use Rattle.rows_body.proofs.body.RowsBodyStream.poll_next.Goals as goal

pub returns-clause-value : goal.returns-clause-value
returns-clause-value c = given_first c.args.self.now.left c.next_item.new.self.left c.next_item.result c.next_item.ensures.takes

pub returns-clause-rest : goal.returns-clause-rest
returns-clause-rest c = given_behind c.args.self.now.left c.next_item.new.self.left c.next_item.result c.next_item.ensures.takes
