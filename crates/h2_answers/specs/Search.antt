-- The search for the next frame, step by step: how long DATA may be, and the streams place by place.
use Rattle.std.specs.Prelude.{◌≡◌, ℕ, ◌+◌, ◌<◌, ◌≤◌, ℤ, pos, ◌≤ℤ◌, slice_get, List, Option, None, Some}
use Rattle.h2_frames.specs.Header.{max_frame_size, header_len}
use Rattle.h2_answers.specs.declared.part.Due.{Due}
use Rattle.h2_answers.specs.Bounds.{Bounds}
use Rattle.h2_answers.specs.Waiting.{Waiting, waiting_on}
use Rattle.h2_answers.specs.Due.{IsBest, NoneFits}

-- how many bytes DATA carry: as many as a frame, what waits, the room and both windows let them
pub record IsGreatestLen (room : ℕ) (connection window : ℤ) (waiting len : ℕ) : Type 0 where
  pub in_frame : len ≤ max_frame_size
  pub in_waiting : len ≤ waiting
  pub in_room : 0 < len → header_len + len ≤ room
  pub in_window : 0 < len → pos len ≤ℤ window
  pub in_connection : 0 < len → pos len ≤ℤ connection
  pub greatest : (more : ℕ) → len < more → more ≤ max_frame_size → more ≤ waiting → pos more ≤ℤ window → pos more ≤ℤ connection → room < header_len + more

-- how many bytes a window lets a frame carry
pub record IsOpen (window : ℤ) (len : ℕ) : Type 0 where
  pub in_frame : len ≤ max_frame_size
  pub in_window : 0 < len → pos len ≤ℤ window
  pub greatest : (more : ℕ) → more ≤ max_frame_size → pos more ≤ℤ window → more ≤ len

-- no frame of the stream at this place that is due fits
abbrev pub NoneAt : Bounds → List (ℕ × Waiting) → (place : ℕ) → Type 0
NoneAt bounds queues place = (entry : ℕ × Waiting) → slice_get queues place ≡ Some entry → NoneFits bounds entry.0 entry.1

abbrev pub IsNextAt : Bounds → List (ℕ × Waiting) → (place : ℕ) → Option Due → Type 0
IsNextAt bounds queues place None = NoneAt bounds queues place
IsNextAt bounds queues place (Some due) = IsBest bounds due.stream (waiting_on queues due.stream) due.part

-- the same at each place from one on and before another
abbrev pub NoneWithin : Bounds → List (ℕ × Waiting) → (from to : ℕ) → Type 0
NoneWithin bounds queues from to = (place : ℕ) → from ≤ place → place < to → NoneAt bounds queues place

abbrev pub IsNextWithin : Bounds → List (ℕ × Waiting) → (from to : ℕ) → Option Due → Type 0
IsNextWithin bounds queues from to None = NoneWithin bounds queues from to
IsNextWithin bounds queues from to (Some due) = IsBest bounds due.stream (waiting_on queues due.stream) due.part
