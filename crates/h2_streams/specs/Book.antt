-- The streams of one connection, and the state of each id (RFC 9113 sections 5.1 and 5.1.1).
use Rattle.std.specs.Prelude.{ℕ, ◌-◌, ◌%◌, ◌==◌, nat_eq, nat_lt, Bool, ◌||◌, List, [], ◌∷◌, ◌++◌, length, drop, Option, None, Some, if◌then◌else◌}
use Rattle.std.specs.List.{list_any}
use Rattle.std.specs.Map.{lookup, set_value, remove_entry}
use Rattle.h2_streams.specs.declared.stream.Stream.{Stream}
use Rattle.h2_streams.specs.declared.stream.StreamState.{StreamState}
use Rattle.h2_streams.specs.declared.stream.StreamState.TheVariants as is

-- the live streams in the order of opening, the last id begun (0: none), and the remembered resets, the latest last
pub record Book : Type 0 where
  pub live : List (ℕ × Stream)
  pub last : ℕ
  pub resets : List ℕ

abbrev pub no_streams : Book
no_streams = record { live = []; last = 0; resets = [] }

-- the live stream of this id
abbrev pub find : Book → ℕ → Option Stream
find book id = lookup (nat_eq id) book.live

-- An even id is never begun by a client, and an odd one is idle until it or a greater one is begun.
abbrev pub is_idle : Book → ℕ → Bool
is_idle book id = (id % 2 == 0) || nat_lt book.last id

-- the state of an id that isn't idle
abbrev pub begun_state : Option Stream → Bool → StreamState
begun_state (Some stream) was_reset = if stream.ended then is.Ended else is.Live
begun_state None was_reset = is.Closed was_reset

abbrev pub state_in : Book → ℕ → StreamState
state_in book id = if is_idle book id then is.Idle else begun_state (find book id) (list_any (nat_eq id) book.resets)

-- the last 128 ids
abbrev pub latest : List ℕ → List ℕ
latest ids = drop (length ids - 128) ids

-- with one reset more
abbrev pub remembering : List ℕ → ℕ → List ℕ
remembering resets id = latest (resets ++ id ∷ [])

-- a stream was opened under a new id
abbrev pub opened : Book → ℕ → Stream → Book
opened book id stream = record { live = book.live ++ (id, stream) ∷ []; last = id; resets = book.resets }

-- a new id was begun and refused
abbrev pub refused : Book → ℕ → Book
refused book id = record { live = book.live; last = id; resets = remembering book.resets id }

-- the live stream of this id is now this one
abbrev pub with_stream : Book → ℕ → Stream → Book
with_stream book id stream = record { live = set_value (nat_eq id) book.live stream; last = book.last; resets = book.resets }

-- the stream of this id is closed
abbrev pub without : Book → ℕ → Book
without book id = record { live = remove_entry (nat_eq id) book.live; last = book.last; resets = book.resets }

-- the stream of this id is closed by a reset of the server's
abbrev pub without_reset : Book → ℕ → Book
without_reset book id = record { live = remove_entry (nat_eq id) book.live; last = book.last; resets = remembering book.resets id }
