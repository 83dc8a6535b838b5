-- A frame that is passed over changes nothing but the count.
use Rattle.std.proofs.Common.{◌≡◌, None, sym, subst}
use Rattle.h2_conn.specs.Held.{Held}
use Rattle.h2_conn.specs.Taking.{Settled, early_of, Fails}
use Rattle.h2_conn.proofs.QuietLemmas.{fails-passed, takes-passed}
use Rattle.h2_conn.proofs.conn.Conn.pass.Goals as goal

pub returns-in-Err : goal.returns-in-Err
returns-in-Err c = λ r s.
    let frame = c.args.frame.now in
    subst (λ (h : Held). Fails r frame c.in-Err.fault h) c.self.view_is
    (fails-passed _ r frame c.in-Err.fault c.requires.passed (subst (λ (h : Held). Settled h r) (sym c.self.view_is) s) (subst (λ (h : Held). early_of h frame ≡ None) (sym c.self.view_is) c.requires.early) c.in-Err.ensures)

pub returns-in-Ok : goal.returns-in-Ok
returns-in-Ok c = λ r s.
    let frame = c.args.frame.now in
    takes-passed _ r frame c.in-Ok.flood c.requires.passed (subst (λ (h : Held). Settled h r) (sym c.self.view_is) s) (subst (λ (h : Held). early_of h frame ≡ None) (sym c.self.view_is) c.requires.early) c.in-Ok.ensures.0 c.in-Ok.ensures.1
