-- GOAWAY waits behind the credit of the latest frame.
use Rattle.std.proofs.Common.{[], ◌∷◌, ◌++◌, sym, ap, subst, ◌∙◌}
use Rattle.std.specs.Prelude.{option_to_list}
use Rattle.h2_record.specs.declared.control.Control.TheVariants as control
use Rattle.h2_conn.specs.Latest.{latest_credit}
use Rattle.h2_conn.specs.Held.{Held}
use Rattle.h2_conn.specs.Stands.{Stands}
use Rattle.h2_conn.proofs.GivingLemmas.{sound-of, stands-open}
use Rattle.h2_conn.proofs.WaitingLemmas.{faults-broken}
use Rattle.h2_conn.proofs.conn.Conn.fault.Goals as goal

pub returns-clause-stands : goal.returns-clause-stands
returns-clause-stands c = λ r s.
    let s = subst (λ (h : Held). Stands h r) (sym c.self.view_is) s in
    let o = stands-open _ r (sound-of c.self.inside.fault (sym c.if-is_some.ensures)) s in
    (s.0, rw c.clear.ensures (faults-broken _ r c.args.fault c.push_both.new.control.items o (c.in_ok-push_both.ensures.ok ∙ (λ i. c.self.inside.control.items ++ option_to_list ((c.latest_credit-credit.ensures.value ∙ ap latest_credit (sym c.self.view_is)) i) ++ control.Goaway (c.last.ensures i) c.args.fault.code ∷ []))))
