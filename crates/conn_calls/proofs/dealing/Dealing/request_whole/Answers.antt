-- Both records have the mark.
use Rattle.std.proofs.Common.{subst, ◌∷◌}
use Rattle.conn_calls.specs.Dealing.{Dealt, dealing_of, MarksOn}
use Rattle.conn_calls.proofs.DealingLemmas.{whole-on}
use Rattle.conn_calls.proofs.dealing.Dealing.request_whole.Goals as goal

pub returns : goal.returns
returns c asked asks =
    let new : Dealt = record { conn = c.request_whole.new.self; bodies = c.self.inside.bodies.entries } in
    let S : Dealt → Type 0 = λ d. MarksOn (dealing_of d) (dealing_of new) (asked ∷ asks) in
    subst S c.self.view_is (whole-on c.self.inside.conn c.self.inside.bodies.entries c.request_whole.new.self c.request_whole.ensures.stands asked asks)
