-- The block of the fields waits.
use Rattle.std.proofs.Common.{◌≡◌, IsSome, sym, ℕ, List, subst}
use Rattle.std.proofs.lemmas.Result.{on_ok_weaker}
use Rattle.h2_streams.specs.Book.{find}
use Rattle.h2_answers.specs.Waiting.{waiting_on, nothing, with_head, ChangesOnly}
use Rattle.h2_conn.specs.Held.{Held}
use Rattle.h2_conn.specs.Stands.{Stands}
use Rattle.h2_conn.proofs.GivingLemmas.{sound-of, gives-head}
use Rattle.h2_conn.proofs.conn.Conn.head.Goals as goal

pub returns-clause-stands : goal.returns-clause-stands
returns-clause-stands c = on_ok_weaker c.head.result
    (λ only r s. gives-head _ r c.args.id c.head.new.self (sound-of c.self.inside.fault (sym c.if-is_some.ensures)) (subst (λ (h : Held). IsSome (find h.streams c.args.id)) (sym c.self.view_is) c.requires.live)
    c.args.fields.now c.args.end (subst (λ (h : Held). waiting_on h.answers c.args.id ≡ nothing) (sym c.self.view_is) c.requires.first) (subst (λ (block : List ℕ). ChangesOnly c.self.inside.answers c.head.new.self c.args.id (with_head (waiting_on c.self.inside.answers c.args.id) block c.args.end)) c.in_ok-block.ensures.spelled only) (subst (λ (h : Held). Stands h r) (sym c.self.view_is) s))
    c.head.ensures.ok
