-- An answer that is lost before its table was asked.
use Rattle.std.proofs.Common.{ℤ, List, refl, inl}
use Rattle.open_tables.specs.Tables.{TableView}
use Rattle.open_tables.specs.Plans.{Plan, Fixed, At, Loses}

pub untouched : {A : Type 0} (passes : List TableView) (plan : Plan A) (now : ℤ) → Loses passes plan now passes
untouched passes (Fixed due) now = refl
untouched passes (At place turn) now = inl refl
