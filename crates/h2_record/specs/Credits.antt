-- The credit that DATA on a stream gives the client for further DATA (RFC 9113 section 5.2.2). It is kept while 64
-- replies of the stream wait.
use Rattle.std.specs.Prelude.{ℕ, ◌+◌, ◌==◌, nat_lt, Bool, false, not, ◌&&◌, List, [], ◌∷◌, Option, Some, None, if◌then◌else◌}
use Rattle.h2_frames.specs.declared.frame.Frame.{Frame}
use Rattle.h2_frames.specs.declared.frame.Frame.TheVariants as frames
use Rattle.h2_record.specs.declared.block.OwedCredit.{OwedCredit}
use Rattle.h2_record.specs.Record.{Record, In, Out}
use Rattle.h2_record.specs.Resets.{is_open}
use Rattle.h2_record.specs.Replies.{waiting_of}

-- so many waiting replies withhold credit
abbrev pub most_waiting : ℕ
most_waiting = 64

abbrev pub is_free : Record → ℕ → Bool
is_free r id = nat_lt (waiting_of r id) most_waiting

-- the credit of a frame, where it is DATA that was taken and doesn't end the stream; it is the latest in the record
abbrev pub owed_by : Record → Frame → Option OwedCredit
owed_by r (frames.Body stream false bytes counted) = if is_open r stream && not (counted == 0) then Some (record { stream = stream; bytes = counted }) else None
owed_by r _ = None

-- The credit of the latest frame. Whether it is given or kept is seen when the next frame comes or goes.
abbrev pub owed_of : Record → Option OwedCredit
owed_of [] = None
owed_of (In frame ∷ r) = owed_by (In frame ∷ r) frame
owed_of (Out frame ∷ r) = None
owed_of (_ ∷ r) = owed_of r

abbrev pub credit : (stream add : ℕ) → Frame
credit stream add = frames.Window stream add

-- it is given where few replies wait
abbrev pub given_of : Record → Option OwedCredit → List Frame
given_of r None = []
given_of r (Some owed) = if is_free r owed.stream then credit owed.stream owed.bytes ∷ [] else []

-- else it is kept
abbrev pub kept_by : Record → Option OwedCredit → ℕ → ℕ
kept_by r None id = 0
kept_by r (Some owed) id = if id == owed.stream && not (is_free r owed.stream) then owed.bytes else 0

-- The credit that is kept of the frames before the latest, by stream. It is given as one once few replies wait, and
-- dropped where the client ends the stream or the stream is closed.
abbrev pub kept_of : Record → ℕ → ℕ
kept_of [] id = 0
kept_of (In frame ∷ r) id = if is_open (In frame ∷ r) id then kept_of r id + kept_by r (owed_of r) id else 0
kept_of (Out frame ∷ r) id = if is_open (Out frame ∷ r) id && not (is_free (Out frame ∷ r) id) then kept_of r id + kept_by r (owed_of r) id else 0
kept_of (_ ∷ r) id = kept_of r id

-- the kept credit that a frame which went sets free; `sum` is what was kept on its stream, and `r` has the frame
abbrev pub freed_sum : Record → (stream sum : ℕ) → List Frame
freed_sum r stream sum = if not (sum == 0) && is_open r stream && is_free r stream then credit stream sum ∷ [] else []

abbrev pub freed_by : Record → Frame → List Frame
freed_by r (frames.Body stream ended bytes counted) = freed_sum (Out (frames.Body stream ended bytes counted) ∷ r) stream (kept_of r stream + kept_by r (owed_of r) stream)
freed_by r _ = []
