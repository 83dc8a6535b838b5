-- The stream's window had the bytes.
use Rattle.std.proofs.Common.{pos, ◌≤ℤ◌, sym, subst, ◌∙◌}
use Rattle.h2_conn.specs.Held.{Held}
use Rattle.h2_conn.specs.Producing.{send_on}
use Rattle.h2_conn.proofs.WithinOut.{within-spent}
use Rattle.h2_conn.proofs.conn.Conn.spend.Goals as goal

pub invariant_of-self-2 : goal.invariant_of-self-2
invariant_of-self-2 c =
    let i = c.self.inside in
    within-spent i.initial i.flood i.streams c.spend-2.new.self i.control.items i.block i.owed c.self.invariant c.args.id c.args.len (sym c.is_live.ensures ∙ c.if-not-is_live.false)
    (subst (λ (h : Held). pos c.args.len ≤ℤ send_on h.streams c.args.id) (sym c.self.view_is) c.requires.windows.0) c.spend-2.ensures
