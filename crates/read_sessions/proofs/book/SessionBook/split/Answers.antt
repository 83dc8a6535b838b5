-- The book stands for the history with the split.
use Rattle.read_sessions.proofs.BookLemmas.{Stands-split}
use Rattle.read_sessions.proofs.book.SessionBook.split.Goals as goal

pub returns-clause-stands : goal.returns-clause-stands
returns-clause-stands c history entry left right = Stands-split c.args.self.now c.cut.new.self c.args.session c.args.node left right c.in_ok-cut.ensures.ok history entry
