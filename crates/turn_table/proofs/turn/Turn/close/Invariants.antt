use Rattle.turn_table.proofs.turn.Turn.close.Given as goal

abbrev pub ghosts-publish : goal.ghosts-publish
ghosts-publish g a = record { told = g.M.Machine.history a.machine.now }
