-- Two records of one connection. One has each part of an answer where its call was decided, the other where it was given.
use Rattle.std.specs.Prelude.{◌≡◌, ◌⊎◌, ℕ, true, false, List, [], ◌∷◌, ◌++◌, if◌then◌else◌}
use Rattle.h2_record.specs.Record.{Record, In, Out, Given, Whole, Broken, any_in}
use Rattle.h2_record.specs.Live.{opens, ends}
use Rattle.h2_record.specs.Resets.{is_live}
use Rattle.h2_record.specs.Texts.{Token, given_text}
use Rattle.h2_record.specs.Written.{EachWasDue}
use Rattle.h2_conn.specs.Held.{Held}
use Rattle.h2_conn.specs.Stands.{Stands}
use Rattle.conn_record.specs.Giving.{EachWasGiven}

-- The record without the parts that were given on streams which the client had ended. No rule reads them: credit is
-- withheld from streams on which the client may still send, and from no others.
abbrev pub undeferred : Record → Record
undeferred [] = []
undeferred (In frame ∷ r) = In frame ∷ undeferred r
undeferred (Out frame ∷ r) = Out frame ∷ undeferred r
undeferred (Given stream part ∷ r) = if any_in (ends stream) r then undeferred r else Given stream part ∷ undeferred r
undeferred (Whole ∷ r) = Whole ∷ undeferred r
undeferred (Broken fault ∷ r) = Broken fault ∷ undeferred r

-- `given` has the parts where they were given, `decided` where they were decided. On streams that the client has ended
-- some are left to be given, in the order in which they were decided.
pub record Defers (given decided : Record) (left : ℕ → List Token) : Type 0 where
  pub same : undeferred given ≡ undeferred decided
  pub text : (id : ℕ) → given_text given id ++ left id ≡ given_text decided id
  pub ended : (id : ℕ) → (left id ≡ []) ⊎ (any_in (ends id) given ≡ true)

-- A connection, and what its caller has left to give on each stream.
pub record Dealing : Type 0 where
  pub conn : Held
  pub left : ℕ → List Token

-- the stream was opened, and lives no more
abbrev pub IsClosed : Record → (stream : ℕ) → Type 0
IsClosed r id = (any_in (opens id) r ≡ true) × (is_live r id ≡ false)

-- The connection stands for what was given of what was decided: each part where it may be, and each frame that went was due.
-- Its caller has what is left, but for closed streams, of which it may have let it go.
pub record Deals (dealing : Dealing) (decided : Record) : Type 0 where
  pub given : Record
  pub left : ℕ → List Token
  pub stands : Stands dealing.conn given
  pub defers : Defers given decided left
  pub has : (id : ℕ) → (dealing.left id ≡ left id) ⊎ IsClosed given id
  pub was_open : EachWasGiven given
  pub was_due : EachWasDue given
