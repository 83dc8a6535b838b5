-- Where the reading of a body stands: the bytes taken so far, and the replies written to the messages in them.
use Rattle.std.proofs.Common.{◌≡◌, ℕ, ◌+◌, ◌≤◌, Bool, List, length, take}
use Rattle.std.specs.Prelude.{Option}
use Rattle.std.specs.Io.KnownBytes.{Appends, Consumes}
use Rattle.call_body.specs.declared.limits.TheConstants.{BODY_LIMIT}
use Rattle.call_body.specs.Reading.{Reads}

pub record At {S : Type 0} (readable : List ℕ → Bool) (answers : S → List ℕ → List ℕ → S → Type 0) (left0 left taken0 taken : Option (List ℕ)) (old new : S) (held : List ℕ) (read : ℕ) : Type 0 where
  pub bytes : List ℕ
  pub replied : List ℕ
  pub consumed : Consumes left0 left bytes
  pub counted : length bytes ≡ read
  pub most : read ≤ BODY_LIMIT + 1
  pub reads : Reads readable answers (take BODY_LIMIT bytes) held replied old new
  pub written : Appends taken0 taken replied
