-- The reading is the one behind those that were told.
use Rattle.std.proofs.Common.{rules}
use Rattle.links.proofs.ClockLemmas.{told_by-risen}
use Rattle.links.proofs.memory_clocks.MemClockClock.now.Goals as goal

pub returns-clause-told : goal.returns-clause-told
returns-clause-told c =
    rw (← c.self.view_is) (told_by-risen c.self.inside.times.items c.self.inside.count _ _ (search rules) (search rules))
