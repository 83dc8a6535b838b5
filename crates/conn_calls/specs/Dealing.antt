-- A connection and the answers that are given as its windows open.
use Rattle.std.specs.Prelude.{◌≡◌, ◌⊎◌, ℕ, nat_eq, is_some, true, List, [], ◌∷◌, ◌++◌, map, Option, Some, None}
use Rattle.std.specs.List.{flat_map}
use Rattle.std.specs.Map.{lookup}
use Rattle.grpc_meta.specs.Answer.{trailers}
use Rattle.h2_record.specs.Record.{AnswerPart, Tail, Record}
use Rattle.h2_record.specs.Faults.{first_fault_of}
use Rattle.h2_record.specs.Texts.{Token, part_text}
use Rattle.h2_record.specs.Written.{EachWasDue}
use Rattle.h2_conn.specs.Held.{Held}
use Rattle.h2_conn.specs.Stands.{Stands}
use Rattle.conn_record.specs.Giving.{EachWasGiven}
use Rattle.conn_deferral.specs.Deferred.{Dealing, Deals}
use Rattle.conn_deferral.specs.Resting.{IsBlocked}
use Rattle.rows_body.specs.Rows.{Item, Rows}
use Rattle.call_read.specs.Items.{messages_of, status_of}
use Rattle.conn_requests.specs.declared.asks.Ask.{Ask}
use Rattle.conn_requests.specs.Given.{reply_of, with_parts}
use Rattle.conn_service.specs.Quiet.{reads_rows}
use Rattle.conn_service.specs.Going.{EndsInTrailers}
use Rattle.conn_calls.specs.Giving.{marked_by}

-- the parts that a body is still to give
abbrev pub parts_left : List Item → List AnswerPart
parts_left items = map reply_of (messages_of items) ++ Tail (trailers (status_of items)) ∷ []

abbrev pub text_left : Option Rows → List Token
text_left None = []
text_left (Some rows) = flat_map part_text (parts_left rows.left)

-- the bodies that aren't wholly given, by stream
abbrev pub KeptBodies : Type 0
KeptBodies = List (ℕ × Rows)

abbrev pub body_in : KeptBodies → (stream : ℕ) → Option Rows
body_in bodies id = lookup (nat_eq id) bodies

pub record Dealt : Type 0 where
  pub conn : Held
  pub bodies : KeptBodies

abbrev pub dealing_of : Dealt → Dealing
dealing_of d = record { conn = d.conn; left = λ id. text_left (body_in d.bodies id) }

-- They stand for what was given of a record in which no rule is broken, and each part was decided where it may be given.
pub record IsDealt (conn : Dealing) (r : Record) : Type 0 where
  pub deals : Deals conn r
  pub sound : first_fault_of r ≡ None
  pub was_open : EachWasGiven r
  pub was_due : EachWasDue r

-- What is left is the same, but where an answer to ReadRows is now left on the stream.
abbrev pub LeavesBy : (old new : ℕ → List Token) (stream : ℕ) → Ask → Type 0
LeavesBy old new stream asked = (id : ℕ) → (new id ≡ old id) ⊎ ((id ≡ stream) × (reads_rows asked ≡ true) × EndsInTrailers (new id))

-- These parts were decided on a stream, and given, or left to be given.
pub record Decides (old new : Dealing) (stream : ℕ) (asked : Ask) (parts : List AnswerPart) : Type 0 where
  pub dealt : (r : Record) → IsDealt old r → IsDealt new (with_parts r stream parts)
  pub left : LeavesBy old.left new.left stream asked

-- the mark of a request that is whole, where it asks something
pub record MarksOn (old new : Dealing) (asks : List Ask) : Type 0 where
  pub dealt : (r : Record) → IsDealt old r → IsDealt new (marked_by asks r)
  pub left : (id : ℕ) → new.left id ≡ old.left id

-- Some of what is left may be given, or let go: what was decided is the same.
pub record Polls (old new : Dealt) : Type 0 where
  pub deals : (r : Record) → first_fault_of r ≡ None → EachWasGiven r → Deals (dealing_of old) r → Deals (dealing_of new) r
  pub kept : (id : ℕ) → is_some (body_in new.bodies id) ≡ true → is_some (body_in old.bodies id) ≡ true

-- No body may be polled.
abbrev pub NoneReady : Dealt → Type 0
NoneReady d = (r : Record) → Stands d.conn r → first_fault_of r ≡ None → IsBlocked r (dealing_of d).left
