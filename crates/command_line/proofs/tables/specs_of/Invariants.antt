use Rattle.std.proofs.Common.{take, map}
use Rattle.command_line.specs.Tables.{AreSpecs}
use Rattle.command_line.proofs.tables.specs_of.Given as goal

abbrev pub invariant-loop-text : goal.invariant-loop-text
invariant-loop-text l = AreSpecs (map (λ t. t.now) (take l.text-index l.texts)) l.tables.items
