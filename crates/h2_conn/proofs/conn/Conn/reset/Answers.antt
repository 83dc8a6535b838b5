-- The reset waits.
use Rattle.std.proofs.Common.{IsSome, sym, subst}
use Rattle.std.proofs.lemmas.Result.{on_ok_weaker}
use Rattle.h2_streams.specs.Book.{find}
use Rattle.h2_answers.specs.Waiting.{waiting_on, IsOpenEnded}
use Rattle.h2_conn.specs.Held.{Held}
use Rattle.h2_conn.specs.Stands.{Stands}
use Rattle.h2_conn.proofs.GivingLemmas.{sound-of, gives-reset}
use Rattle.h2_conn.proofs.conn.Conn.reset.Goals as goal

pub returns-clause-stands : goal.returns-clause-stands
returns-clause-stands c = on_ok_weaker c.reset.result
    (λ only r s. gives-reset _ r c.args.id c.reset.new.self (sound-of c.self.inside.fault (sym c.if-is_some.ensures)) (subst (λ (h : Held). IsSome (find h.streams c.args.id)) (sym c.self.view_is) c.requires.live)
    c.args.code (subst (λ (h : Held). IsOpenEnded (waiting_on h.answers c.args.id)) (sym c.self.view_is) c.requires.open) only (subst (λ (h : Held). Stands h r) (sym c.self.view_is) s))
    c.reset.ensures.ok
