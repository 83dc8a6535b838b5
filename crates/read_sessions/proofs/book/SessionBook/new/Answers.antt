-- Without a session it stands for the empty history.
use Rattle.std.proofs.Common.{[], sym, subst}
use Rattle.read_sessions.specs.Stands.{Stands}
use Rattle.read_sessions.proofs.BookLemmas.{Stands-empty}
use Rattle.read_sessions.proofs.book.SessionBook.new.Goals as goal

pub returns-clause-stands : goal.returns-clause-stands
returns-clause-stands c = subst (λ book. Stands book []) (sym c.new.ensures.items) Stands-empty
