-- No stream has more rows than all rows weigh.
use Rattle.table_model.proofs.VisibleWalkLemmas.{ends_fit}
use Rattle.table_model.proofs.plain.PlainSessions.visible_by.Goals as goal

pub visible_by-requires-clause-ends : goal.visible_by-requires-clause-ends
visible_by-requires-clause-ends c = rw c.as_slice.ensures.value (λ on. ends_fit c.self.inside.schema c.self.inside.entries.items c.self.invariant on)
