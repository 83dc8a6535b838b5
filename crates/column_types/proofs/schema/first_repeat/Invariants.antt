use Rattle.column_types.specs.Schema.{HasNoRepeat}
use Rattle.column_types.proofs.schema.first_repeat.Given as goal

abbrev pub invariant-loop-second : goal.invariant-loop-second
invariant-loop-second l = HasNoRepeat l.columns l.second
