-- Laws of replies that are written by and by, and of what lets DATA go.
use Rattle.std.specs.Prelude.{◌≡◌, ℕ, ◌+◌, ◌<◌, ◌≤◌, pos, ◌<ℤ◌, ◌↔◌, List, ◌++◌, length, drop, None}
use Rattle.std.specs.List.{concat}
use Rattle.h2_answers.specs.declared.part.Part.TheVariants as part
use Rattle.h2_answers.specs.Bounds.{Bounds}
use Rattle.h2_answers.specs.Replies.{adding_reply, drop_bytes}
use Rattle.h2_answers.specs.Waiting.{Waiting, data_of}
use Rattle.h2_answers.specs.Due.{IsDue, FitsRoom}

-- What waits is what waited, less the bytes that are written.
abbrev pub BytesAreDropped : Type 0
BytesAreDropped = (n : ℕ) (replies : List (List ℕ)) → concat (drop_bytes n replies) ≡ drop n (concat replies)

-- A reply that is given adds its bytes at the end.
abbrev pub BytesAreAdded : Type 0
BytesAreAdded = (replies : List (List ℕ)) (reply : List ℕ) → concat (adding_reply replies reply) ≡ concat replies ++ reply

-- Written in two steps is written in one.
abbrev pub StepsAreOne : Type 0
StepsAreOne = (m n : ℕ) (replies : List (List ℕ)) → drop_bytes n (drop_bytes m replies) ≡ drop_bytes (m + n) replies

-- A reply may be given before or after bytes of the earlier ones are written.
abbrev pub GivenBeforeOrAfter : Type 0
GivenBeforeOrAfter = (n : ℕ) (replies : List (List ℕ)) (reply : List ℕ)
    → n ≤ length (concat replies) → drop_bytes n (adding_reply replies reply) ≡ adding_reply (drop_bytes n replies) reply

pub record RepliesKeepTheirBytes : Type 0 where
  pub dropped : BytesAreDropped
  pub added : BytesAreAdded
  pub steps : StepsAreOne
  pub order : GivenBeforeOrAfter

-- some DATA of the stream are due and fit
pub record CanCarryData (bounds : Bounds) (id : ℕ) (waiting : Waiting) : Type 0 where
  pub len : ℕ
  pub due : IsDue bounds id waiting (part.Body len)
  pub fits : FitsRoom bounds id waiting (part.Body len)

-- no HEADERS wait before the bytes, of which there is one; both windows have one; and there is room for a header and one
pub record MayCarryData (bounds : Bounds) (id : ℕ) (waiting : Waiting) : Type 0 where
  pub head : waiting.head ≡ None
  pub some : 0 < length (data_of waiting)
  pub stream : pos 0 <ℤ bounds.send_window id
  pub connection : pos 0 <ℤ bounds.connection
  pub room : 10 ≤ bounds.room

abbrev pub DataGoesFromTenBytes : Type 0
DataGoesFromTenBytes = (bounds : Bounds) (id : ℕ) (waiting : Waiting) → CanCarryData bounds id waiting ↔ MayCarryData bounds id waiting
