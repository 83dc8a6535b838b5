-- What a command on a write stream is answered by what is known of the stream: the refusals in their order, and
-- what the command does where there is none.
use Rattle.std.specs.Prelude.{ℕ, ◌+◌, ℤ, pos, Bool, true, false, ◌&&◌, ◌||◌, not, ◌==◌, max, int_lt, int_le, nat_abs, Option, None, Some, is_some, is_none, List, [], ◌∷◌, ◌++◌, Result, Err, if◌then◌else◌}
use Rattle.std.specs.List.{list_any, filter_map, enumerate_from}
use Rattle.std.specs.Option.{option_map}
use Rattle.table_model.specs.declared.replies.TheConstants.{STREAM_NOT_FOUND, INVALID_STREAM_TYPE, STREAM_ALREADY_COMMITTED, INVALID_STREAM_STATE}
use Rattle.table_model.specs.declared.replies.StreamError.{StreamError}
use Rattle.table_model.specs.declared.reasons.Refusal.{Refusal}
use Rattle.table_model.specs.declared.reasons.Why.TheVariants as why
use Rattle.table_model.specs.declared.streams.StreamRef.{StreamRef}
use Rattle.table_model.specs.declared.streams.StreamState.{StreamState}
use Rattle.table_model.specs.declared.sessions.ReadNode.{ReadNode}
use Rattle.table_model.specs.declared.checks.FlushMove.{FlushMove}
use Rattle.table_model.specs.declared.checks.FinalMove.{FinalMove}
use Rattle.table_model.specs.Reasons.{refusal_of}
use Rattle.table_model.specs.Rules.{Rule, unless}
use Rattle.table_model.specs.Offsets.{offset_is, offset_rules}
use Rattle.table_model.specs.Streams.{is_one_stream, is_default, is_pending, is_buffered}
use Rattle.table_model.specs.Sessions.{is_expired}

-- an append of some rows, at an offset or at the end
abbrev pub append_rules : StreamRef → StreamState → Option ℤ → ℕ → List Rule
append_rules on state offset count =
    (count == 0, why.NoRows)
    ∷ (is_default on && is_some offset, why.DefaultOffset)
    ∷ (offset_rules state.rows offset ++ (state.finalised, why.Finalised) ∷ [])

-- the offset at which the rows stand
abbrev pub append_check : StreamRef → Option StreamState → Option ℤ → ℕ → Result ℕ Refusal
append_check on None offset count = Err (refusal_of why.NoStream)
append_check on (Some state) offset count = unless (append_rules on state offset count) state.rows

-- a flush up to an offset; a finalised stream may be flushed
abbrev pub flush_rules : StreamState → Option ℤ → List Rule
flush_rules state offset =
    (not (is_buffered state.kind), why.WrongKind)
    ∷ (is_none offset, why.NoOffset)
    ∷ (offset_is (λ z. int_lt z (pos 0)) offset, why.NegativeOffset)
    ∷ (offset_is (λ z. int_le (pos state.rows) z) offset, why.PastEnd)
    ∷ []

-- the rows up to an offset, the row there included
abbrev pub count_upto : Option ℤ → ℕ
count_upto None = 0
count_upto (Some offset) = nat_abs offset + 1

-- from the flushed count to the greater of it and the rows up to the offset
abbrev pub flush_check : Option StreamState → Option ℤ → Result FlushMove Refusal
flush_check None offset = Err (refusal_of why.NoStream)
flush_check (Some state) offset =
    unless (flush_rules state offset) (record { from = state.flushed; upto = max state.flushed (count_upto offset) })

abbrev pub finalise_rules : StreamRef → List Rule
finalise_rules on = (is_default on, why.WrongKind) ∷ []

abbrev pub finalise_check : StreamRef → Option StreamState → Result FinalMove Refusal
finalise_check on None = Err (refusal_of why.NoStream)
finalise_check on (Some state) = unless (finalise_rules on) (record { rows = state.rows; already = state.finalised })

abbrev pub names_twice : List StreamRef → Bool
names_twice [] = false
names_twice (on ∷ more) = list_any (is_one_stream on) more || names_twice more

abbrev pub is_empty : List StreamRef → Bool
is_empty [] = true
is_empty (on ∷ more) = false

abbrev pub commit_rules : List StreamRef → List Rule
commit_rules streams = (is_empty streams, why.NoStreams) ∷ (names_twice streams, why.Twice) ∷ []

-- why a stream can't be committed, the first that holds
abbrev pub stream_code : Option StreamState → Option ℕ
stream_code None = Some STREAM_NOT_FOUND
stream_code (Some state) =
    if not (is_pending state.kind) then Some INVALID_STREAM_TYPE
    else (if is_some state.committed then Some STREAM_ALREADY_COMMITTED
    else (if not state.finalised then Some INVALID_STREAM_STATE else None))

abbrev pub error_at : ℕ → Option ℕ → Option StreamError
error_at place code = option_map (λ n. record { place = place; code = n }) code

-- the errors of the streams that can't be committed, in the order of the streams
abbrev pub stream_errors : (StreamRef → Option StreamState) → List StreamRef → List StreamError
stream_errors look streams = filter_map (λ item. error_at item.0 (stream_code (look item.1))) (enumerate_from 0 streams)

abbrev pub commit_check : (StreamRef → Option StreamState) → List StreamRef → Result (List StreamError) Refusal
commit_check look streams = unless (commit_rules streams) (stream_errors look streams)

-- a stream's type and times
abbrev pub get_check : Option StreamState → Result StreamState Refusal
get_check None = Err (refusal_of why.NoStream)
get_check (Some state) = unless [] state

-- A node of a session can be read and split until the session expires. `now` is the greater of the clock's reading and the
-- moment of the history.
abbrev pub read_rules : ReadNode → ℤ → List Rule
read_rules state now = (is_expired state.moment now, why.Expired) ∷ []

abbrev pub read_check : Option ReadNode → ℤ → Result ReadNode Refusal
read_check None now = Err (refusal_of why.NoRead)
read_check (Some state) now = unless (read_rules state now) state
