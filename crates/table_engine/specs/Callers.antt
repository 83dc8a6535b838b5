-- The number of entries of each caller.
use Rattle.std.specs.Prelude.{ℕ, nat_eq}
use Rattle.std.specs.HashMap.{get}
use Rattle.std.specs.Map.{count_at}
use Rattle.table_engine.specs.declared.callers.Callers.{Callers}

abbrev pub count_of : Callers → ℕ → ℕ
count_of callers caller = count_at (get nat_eq callers.counts) caller
