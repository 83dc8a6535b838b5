-- The block of the fields waits.
use Rattle.std.proofs.Common.{IsSome, sym, ℕ, List, subst}
use Rattle.std.proofs.lemmas.Result.{on_ok_weaker}
use Rattle.h2_streams.specs.Book.{find}
use Rattle.h2_answers.specs.Waiting.{waiting_on, with_tail, IsOpenEnded, ChangesOnly}
use Rattle.h2_conn.specs.Held.{Held}
use Rattle.h2_conn.specs.Stands.{Stands}
use Rattle.h2_conn.proofs.GivingLemmas.{sound-of, gives-tail}
use Rattle.h2_conn.proofs.conn.Conn.tail.Goals as goal

pub returns-clause-stands : goal.returns-clause-stands
returns-clause-stands c = on_ok_weaker c.tail.result
    (λ only r s. gives-tail _ r c.args.id c.tail.new.self (sound-of c.self.inside.fault (sym c.if-is_some.ensures)) (subst (λ (h : Held). IsSome (find h.streams c.args.id)) (sym c.self.view_is) c.requires.live)
    c.args.fields.now (subst (λ (h : Held). IsOpenEnded (waiting_on h.answers c.args.id)) (sym c.self.view_is) c.requires.open) (subst (λ (block : List ℕ). ChangesOnly c.self.inside.answers c.tail.new.self c.args.id (with_tail (waiting_on c.self.inside.answers c.args.id) block)) c.in_ok-block.ensures.spelled only) (subst (λ (h : Held). Stands h r) (sym c.self.view_is) s))
    c.tail.ensures.ok
