-- What a deframer stands for.
use Rattle.std.specs.Prelude.{ℕ, List}

-- the bytes of the body that were fed and not yet given as a message
pub record Held : Type 0 where
  pub limit : ℕ
  pub bytes : List ℕ
