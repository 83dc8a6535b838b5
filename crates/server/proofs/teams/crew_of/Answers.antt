-- The others, and the first.
use Rattle.server.proofs.FinishLemmas.{made_crew}
use Rattle.server.proofs.teams.crew_of.Goals as goal

pub returns-clause-crew : goal.returns-clause-crew
returns-clause-crew g c =
    let made = c.in_ok-passes.ensures in
    made_crew _ _ _ _ _ _ _ _ _ _ _ _ _ c.push_reserved.ensures.items c.requires.workers made.count c.in_ok-passes.crew.ok.0 made.teams c.replace.ensures.value made.clones
    made.new c.another.ensures.taker c.new.ensures.items
