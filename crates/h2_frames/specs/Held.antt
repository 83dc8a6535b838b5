-- What a reader of frames holds, as contracts see it.
use Rattle.std.specs.Prelude.{ℕ, Bool, List}

-- the number of bytes of the preface
abbrev pub preface_len : ℕ
preface_len = 24

-- whether the preface has come, and the bytes since then, or since the last frame that was given
pub record Held : Type 0 where
  pub started : Bool
  pub bytes : List ℕ
