-- What a connection keeps while the parts of an answer are given.
use Rattle.std.specs.Prelude.{◌≡◌, ℕ, List, [], ◌∷◌, None}
use Rattle.h2_record.specs.Record.{AnswerPart, Record, Whole}
use Rattle.h2_record.specs.Faults.{first_fault_of}
use Rattle.h2_record.specs.Written.{EachWasDue}
use Rattle.h2_conn.specs.Held.{Held}
use Rattle.h2_conn.specs.Stands.{Stands}
use Rattle.conn_record.specs.Giving.{EachWasGiven}
use Rattle.conn_requests.specs.declared.asks.Ask.{Ask}
use Rattle.conn_requests.specs.Given.{with_parts}

-- A connection stands for a record in which no rule is broken, and each part was given where it may be.
pub record IsSound (conn : Held) (r : Record) : Type 0 where
  pub stands : Stands conn r
  pub sound : first_fault_of r ≡ None
  pub was_open : EachWasGiven r
  pub was_due : EachWasDue r

-- these parts were given on a stream, one after another
abbrev pub Gives : (old new : Held) (stream : ℕ) → List AnswerPart → Type 0
Gives old new id parts = (r : Record) → IsSound old r → IsSound new (with_parts r id parts)

-- the mark of a request that is whole, where it asks something
abbrev pub marked_by : List Ask → Record → Record
marked_by [] r = r
marked_by (asked ∷ asks) r = Whole ∷ r

abbrev pub Marks : (old new : Held) → List Ask → Type 0
Marks old new asks = (r : Record) → IsSound old r → IsSound new (marked_by asks r)
