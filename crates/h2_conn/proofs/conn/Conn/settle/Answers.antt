-- What is kept of a stream is no more than came on it.
use Rattle.std.proofs.Common.{rules, sym, subst}
use Rattle.h2_conn.specs.Held.{Held}
use Rattle.h2_conn.specs.Stands.{OpenStands}
use Rattle.h2_conn.proofs.WindowLaws.{kept-fits}
use Rattle.h2_conn.proofs.conn.Conn.settle.Goals as goal

pub returns-in_ok-add-clause-stands : goal.returns-in_ok-add-clause-stands
returns-in_ok-add-clause-stands c = λ r s.
    let o = subst (λ (h : Held). OpenStands h r) (sym c.self.view_is) s in
    let only = c.in_ok-add.ensures.ok (kept-fits _ r c.in-Some.owed o c.in-Some.is) in
    search (rules, only, o)
