-- All is written: it is done, or cut.
use Rattle.conn_loop.proofs.RoundLemmas.{at-done, at-cut}
use Rattle.conn_loop.proofs.reading.at_end.Goals as goal

pub returns-then-have-eq0 : goal.returns-then-have-eq0
returns-then-have-eq0 c = record { ends = λ now met spent plan passes0 passes old stays. at-done plan passes0 passes old now _ _ _ _ stays c.if-not-state.false met spent _ c.held-have.ensures c.if-have-eq0.true }

pub returns : goal.returns
returns c = record { ends = λ now met spent plan passes0 passes old stays. at-cut plan passes0 passes old now _ _ _ _ stays c.if-not-state.false met spent _ _ c.held-have.ensures c.need-need.ensures c.if-have-eq0.false }
