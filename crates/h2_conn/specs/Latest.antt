-- The credit of the latest frame, as a connection gives it.
use Rattle.std.specs.Prelude.{ℕ, nat_lt, Bool, List, length, Option, None, Some, if◌then◌else◌}
use Rattle.h2_answers.specs.Waiting.{Waiting, waiting_on}
use Rattle.h2_record.specs.declared.block.OwedCredit.{OwedCredit}
use Rattle.h2_record.specs.declared.control.Control.{Control}
use Rattle.h2_record.specs.declared.control.Control.TheVariants as control
use Rattle.h2_record.specs.Credits.{most_waiting}
use Rattle.h2_conn.specs.Held.{Held}

-- few replies wait on the stream
abbrev pub is_free_on : List (ℕ × Waiting) → ℕ → Bool
is_free_on answers id = nat_lt (length (waiting_on answers id).replies) most_waiting

-- the WINDOW_UPDATE, where it is given
abbrev pub credit_if : List (ℕ × Waiting) → Option OwedCredit → Option Control
credit_if answers None = None
credit_if answers (Some owed) = if is_free_on answers owed.stream then Some (control.Credit owed.stream owed.bytes) else None

abbrev pub latest_credit : Held → Option Control
latest_credit c = credit_if c.answers c.owed
