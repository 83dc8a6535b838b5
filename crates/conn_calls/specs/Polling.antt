-- A body that is polled is taken out of the others, and put back where more is left.
use Rattle.std.specs.Prelude.{◌≡◌, ℕ, nat_eq, Option, None, if◌then◌else◌}
use Rattle.rows_body.specs.Rows.{Rows}
use Rattle.conn_calls.specs.Dealing.{Dealt, body_in}

-- The body of a stream is taken out, if there is one.
pub record IsWithout (old new : Dealt) (stream : ℕ) (body : Option Rows) : Type 0 where
  pub conn : new.conn ≡ old.conn
  pub was : body_in old.bodies stream ≡ body
  pub others : (id : ℕ) → body_in new.bodies id ≡ (if nat_eq stream id then None else body_in old.bodies id)
