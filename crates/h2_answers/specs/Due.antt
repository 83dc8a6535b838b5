-- Which frame of a stream may be written next, and how it is spelled (RFC 9113 sections 6.1, 6.2, 6.4 and 6.9.1).
use Rattle.std.specs.Prelude.{◌≡◌, ℕ, ◌+◌, ◌<◌, ◌≤◌, pos, ◌≤ℤ◌, Bool, true, false, List, [], ◌∷◌, ◌++◌, length, take, drop, Option, None, Some, IsSome, unwrap_or, if◌then◌else◌}
use Rattle.h2_frames.specs.Header.{max_frame_size, header_len}
use Rattle.h2_frames.specs.declared.frame.Frame.{Frame}
use Rattle.h2_frames.specs.declared.frame.Frame.TheVariants as frames
use Rattle.h2_frames.specs.Spelling.{frame_len}
use Rattle.h2_answers.specs.declared.part.Head.{Head}
use Rattle.h2_answers.specs.declared.part.Part.{Part}
use Rattle.h2_answers.specs.declared.part.Part.TheVariants as part
use Rattle.h2_answers.specs.declared.part.Due.{Due}
use Rattle.h2_answers.specs.Bounds.{Bounds}
use Rattle.h2_answers.specs.Waiting.{Waiting, data_of, waiting_on, without}

-- Nothing of the stream waits before the part. DATA carry a byte at least.
abbrev pub IsNext : Waiting → Part → Type 0
IsNext waiting (part.Head end) = (head : Head) × (waiting.head ≡ Some head) × (end ≡ head.end)
IsNext waiting (part.Body len) = (waiting.head ≡ None) × (0 < len) × (len ≤ max_frame_size) × (len ≤ length (data_of waiting))
IsNext waiting part.Tail = (waiting.head ≡ None) × (data_of waiting ≡ []) × IsSome waiting.tail
IsNext waiting (part.Reset code) = (waiting.head ≡ None) × (data_of waiting ≡ []) × (waiting.tail ≡ None) × (waiting.resets ≡ code ∷ drop 1 waiting.resets)

-- DATA stay within both windows; a reset waits behind a control frame of its stream.
abbrev pub IsFree : Bounds → (id : ℕ) → Part → Type 0
IsFree bounds id (part.Body len) = (pos len ≤ℤ bounds.send_window id) × (pos len ≤ℤ bounds.connection)
IsFree bounds id (part.Reset code) = bounds.is_held id ≡ false
IsFree bounds id _ = Unit {0}

abbrev pub IsDue : Bounds → (id : ℕ) → Waiting → Part → Type 0
IsDue bounds id waiting p = IsNext waiting p × IsFree bounds id p

-- The first block of a connection sets the dynamic table to 0 before its fields (RFC 7541 section 6.3).
abbrev pub block_of : (first : Bool) → (block : List ℕ) → List ℕ
block_of first block = (if first then 32 ∷ [] else []) ++ block

abbrev pub head_block : Option Head → List ℕ
head_block None = []
head_block (Some head) = head.block

-- The frame that carries the part. END_STREAM stands on HEADERS alone, never on DATA.
abbrev pub frame_of : (first : Bool) (id : ℕ) → Waiting → Part → Frame
frame_of first id waiting (part.Head end) = frames.Headers id end true (block_of first (head_block waiting.head))
frame_of first id waiting (part.Body len) = frames.Body id false (take len (data_of waiting)) len
frame_of first id waiting part.Tail = frames.Headers id true true (block_of first (unwrap_or waiting.tail []))
frame_of first id waiting (part.Reset code) = frames.Reset id code

-- the part is next on its stream, and its frame
abbrev pub IsAhead : List (ℕ × Waiting) → Due → Type 0
IsAhead queues due = IsNext (waiting_on queues due.stream) due.part

abbrev pub due_frame : (first : Bool) → List (ℕ × Waiting) → Due → Frame
due_frame first queues due = frame_of first due.stream (waiting_on queues due.stream) due.part

-- what waits on its stream when it is taken
abbrev pub waiting_behind : List (ℕ × Waiting) → Due → Waiting
waiting_behind queues due = without (waiting_on queues due.stream) due.part

-- the frame has at most as many bytes as there is room for
abbrev pub FitsRoom : Bounds → (id : ℕ) → Waiting → Part → Type 0
FitsRoom bounds id waiting p = frame_len (frame_of bounds.first id waiting p) ≤ bounds.room

-- DATA carry all that a frame, the room, both windows and what waits let them carry.
abbrev pub IsFull : Bounds → (id : ℕ) → Waiting → Part → Type 0
IsFull bounds id waiting (part.Body len) =
    (more : ℕ) → len < more → more ≤ max_frame_size → more ≤ length (data_of waiting) → IsFree bounds id (part.Body more) → bounds.room < header_len + more
IsFull bounds id waiting _ = Unit {0}

-- The part is due, fits, and carries as much as it may.
pub record IsBest (bounds : Bounds) (id : ℕ) (waiting : Waiting) (p : Part) : Type 0 where
  pub due : IsDue bounds id waiting p
  pub fits : FitsRoom bounds id waiting p
  pub full : IsFull bounds id waiting p

-- no frame of the stream that is due fits
abbrev pub NoneFits : Bounds → (id : ℕ) → Waiting → Type 0
NoneFits bounds id waiting = (p : Part) → IsDue bounds id waiting p → FitsRoom bounds id waiting p → ⊥

-- of one stream: the frame that is due and fits, or none where there is none
abbrev pub IsNextPart : Bounds → (id : ℕ) → Waiting → Option Part → Type 0
IsNextPart bounds id waiting None = NoneFits bounds id waiting
IsNextPart bounds id waiting (Some p) = IsBest bounds id waiting p

-- of all streams: a frame that is due and fits, or none where there is none
abbrev pub IsNextDue : Bounds → List (ℕ × Waiting) → Option Due → Type 0
IsNextDue bounds queues None = (id : ℕ) → NoneFits bounds id (waiting_on queues id)
IsNextDue bounds queues (Some due) = IsBest bounds due.stream (waiting_on queues due.stream) due.part
