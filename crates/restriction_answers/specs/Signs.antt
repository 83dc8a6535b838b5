-- The operators in front notation.
use Rattle.std.specs.Prelude.{ℕ, List, codes}
use Rattle.column_types.specs.declared.predicate.Op.{Op}
use Rattle.column_types.specs.declared.predicate.Op.TheVariants as op

abbrev pub sign_of : Op → List ℕ
sign_of op.Eq = codes "="
sign_of op.Ne = codes "!="
sign_of op.Lt = codes "<"
sign_of op.Le = codes "<="
sign_of op.Gt = codes ">"
sign_of op.Ge = codes ">="
