-- What is kept is the record's.
use Rattle.std.proofs.Common.{sym, subst}
use Rattle.h2_conn.specs.Held.{Held}
use Rattle.h2_conn.specs.Stands.{Stands}
use Rattle.h2_conn.proofs.FollowLemmas.{fault-kept}
use Rattle.h2_conn.proofs.conn.Conn.first_fault.Goals as goal

pub returns : goal.returns
returns c = λ r s. fault-kept _ r (subst (λ (h : Held). Stands h r) (sym c.self.view_is) s)
