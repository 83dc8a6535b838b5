-- The count is that of a record whose latest mark is a whole request.
use Rattle.std.proofs.Common.{sym, subst}
use Rattle.h2_conn.specs.Held.{Held}
use Rattle.h2_conn.specs.Stands.{Stands}
use Rattle.h2_conn.proofs.GivingLemmas.{stands-whole}
use Rattle.h2_conn.proofs.conn.Conn.request_whole.Goals as goal

pub returns-clause-stands : goal.returns-clause-stands
returns-clause-stands c = λ r s. stands-whole _ r (subst (λ (h : Held). Stands h r) (sym c.self.view_is) s)
