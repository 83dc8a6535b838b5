-- The script of a stream in memory: its next piece says how much the next call gives or takes.
use Rattle.std.specs.Prelude.{◌≡◌, ℕ, Bool, true, false, Option, None, Some, List, [], ◌∷◌, ⊤, min, length, nat_lt}
use Rattle.std.specs.List.{list_all}
use Rattle.outside.specs.declared.scripts.Piece.{Piece}
use Rattle.outside.specs.declared.scripts.Piece.TheVariants as piece
use Rattle.outside.specs.declared.sources.SourceRead.{SourceRead}
use Rattle.outside.specs.declared.sources.SourceRead.TheVariants as read
use Rattle.outside.specs.declared.sinks.SinkWrite.{SinkWrite}
use Rattle.outside.specs.declared.sinks.SinkWrite.TheVariants as write

-- a source or a sink is always ready, and moves at least one byte
abbrev pub is_stream_piece : Piece → Bool
is_stream_piece (piece.UpTo n) = nat_lt 0 n
is_stream_piece piece.NotReady = false
is_stream_piece piece.Fail = true

-- a script for a source or a sink
abbrev pub is_stream_script : List Piece → Bool
is_stream_script pieces = list_all is_stream_piece pieces

-- how many of `count` bytes the next call may move, and none where it meets a fault; a used-up script lets all move
abbrev pub allowed_by : List Piece → ℕ → Option ℕ
allowed_by [] count = Some count
allowed_by (piece.UpTo n ∷ pieces) count = Some (min n count)
allowed_by (piece.NotReady ∷ pieces) count = None
allowed_by (piece.Fail ∷ pieces) count = None

-- what a source in memory shows: the bytes left, the rest of its script, its count of faults
pub record SourceState : Type 0 where
  pub bytes : List ℕ
  pub script : List Piece
  pub count : ℕ

-- what a sink in memory shows: the bytes taken, the rest of its script, its count of faults
pub record SinkState : Type 0 where
  pub bytes : List ℕ
  pub script : List Piece
  pub count : ℕ

-- a read moves what its script allows of what is asked and there
abbrev pub ReadFollows : SourceState → SourceRead → ℕ → Type 0
ReadFollows state (read.Got n) asked = allowed_by state.script (min asked (length state.bytes)) ≡ Some n
ReadFollows state read.End asked = allowed_by state.script (min asked (length state.bytes)) ≡ Some 0
ReadFollows state read.Failed asked = allowed_by state.script (min asked (length state.bytes)) ≡ None

-- a write takes what its script allows, and meets a fault where there is no room for it
abbrev pub WriteFollows : SinkState → SinkWrite → ℕ → Type 0
WriteFollows state (write.Took n) offered = allowed_by state.script offered ≡ Some n
WriteFollows state write.Failed offered = ⊤
