-- The states of the write streams of a table, and what a change of them leaves.
use Rattle.std.specs.Prelude.{◌≡◌, ℕ, ◌+◌, ◌-◌, nat_lt, ℤ, Bool, true, false, Option, None, Some, List, [], ◌∷◌, ◌++◌, length, Result, Ok, Err, if◌then◌else◌}
use Rattle.std.specs.List.{slice_get}
use Rattle.std.specs.Option.{option_map}
use Rattle.outside.specs.declared.wants.Memory.{Memory}
use Rattle.table_model.specs.declared.reasons.Refusal.{Refusal}
use Rattle.table_model.specs.declared.streams.StreamKind.{StreamKind}
use Rattle.table_model.specs.declared.streams.StreamKind.TheVariants as kind
use Rattle.table_model.specs.declared.streams.StreamRef.{StreamRef}
use Rattle.table_model.specs.declared.streams.StreamRef.TheVariants as stream
use Rattle.table_model.specs.declared.streams.StreamState.{StreamState}
use Rattle.table_model.specs.Checks.{get_check}
use Rattle.write_streams.specs.declared.book.StreamFacts.{StreamFacts}

-- the default stream, and the created streams in the order of their numbers
pub record Book : Type 0 where
  pub default : StreamState
  pub created : List StreamState

-- what a book says of a stream; created streams are numbered from 1
abbrev pub find : Book → StreamRef → Option StreamState
find book stream.Default = Some book.default
find book (stream.Number number) = if nat_lt 0 number then slice_get book.created (number - 1) else None
find book stream.Other = None

-- a stream to which nothing was appended
abbrev pub unused : StreamKind → Option ℤ → StreamState
unused k created = record { kind = k; created = created; committed = None; rows = 0; flushed = 0; finalised = false }

abbrev pub empty_book : Book
empty_book = record { default = unused kind.Committed None; created = [] }

-- A stream was added at a moment, under the next number. Want of memory keeps the book.
abbrev pub Added : Book → Book → StreamKind → ℤ → Result ℕ Memory → Type 0
Added old new k moment (Ok number) =
    (number ≡ length old.created + 1) × (new ≡ record old { created = old.created ++ unused k (Some moment) ∷ [] })
Added old new k moment (Err memory) = new ≡ old

-- The state of each stream that passes a test is changed, and no other, and none is added.
pub record Changes (old new : Book) (on : StreamRef → Bool) (change : StreamState → StreamState) : Type 0 where
  pub found : (s : StreamRef) → find new s ≡ option_map (λ state. if on s then change state else state) (find old s)
  pub count : length new.created ≡ length old.created

-- with some rows more
abbrev pub with_rows : ℕ → StreamState → StreamState
with_rows rows state = record state { rows = state.rows + rows }

-- with this many rows flushed
abbrev pub with_flushed : ℕ → StreamState → StreamState
with_flushed upto state = record state { flushed = upto }

abbrev pub with_finalised : StreamState → StreamState
with_finalised state = record state { finalised = true }

abbrev pub with_committed : ℤ → StreamState → StreamState
with_committed moment state = record state { committed = Some moment }

abbrev pub facts_told : Result StreamState Refusal → Result StreamFacts Refusal
facts_told (Ok state) = Ok (record { kind = state.kind; created = state.created; committed = state.committed })
facts_told (Err refusal) = Err refusal

-- a stream's type and times, or the refusal
abbrev pub facts_check : Option StreamState → Result StreamFacts Refusal
facts_check found = facts_told (get_check found)
