-- Flow-control windows as sums over a record (RFC 9113 sections 5.2 and 6.9).
use Rattle.std.specs.Prelude.{ℕ, ◌+◌, ◌==◌, false, List, [], ◌∷◌, length, ℤ, pos, ◌-ℤ◌, if◌then◌else◌}
use Rattle.h2_frames.specs.declared.frame.Frame.{Frame}
use Rattle.h2_frames.specs.declared.frame.Frame.TheVariants as frames
use Rattle.h2_frames.specs.declared.pairs.Pair.{Pair}
use Rattle.h2_record.specs.Record.{Record, In, sum_in, sum_out}

-- SETTINGS_INITIAL_WINDOW_SIZE (section 6.5.2)
abbrev pub initial_window_size : ℕ
initial_window_size = 4

-- what every window has at first (section 6.9.2)
abbrev pub first_window : ℕ
first_window = 65535

-- the initial size of send windows after the pairs of a SETTINGS frame, of which the last counts
abbrev pub initial_after : ℕ → List Pair → ℕ
initial_after initial [] = initial
initial_after initial (pair ∷ pairs) = initial_after (if pair.id == initial_window_size then pair.value else initial) pairs

-- the initial size that the SETTINGS which came leave
abbrev pub initial_of : Record → ℕ
initial_of [] = first_window
initial_of (In (frames.Settings false pairs) ∷ r) = initial_after (initial_of r) pairs
initial_of (_ ∷ r) = initial_of r

-- WINDOW_UPDATE on a stream, of which 0 is the connection
abbrev pub with_increment : ℕ → Frame → ℕ → ℕ
with_increment id (frames.Window stream add) sum = if id == stream then sum + add else sum
with_increment id _ sum = sum

-- the data of DATA on a stream, which is written without padding, and that of DATA on any
abbrev pub with_data : ℕ → Frame → ℕ → ℕ
with_data id (frames.Body stream end bytes counted) sum = if id == stream then sum + length bytes else sum
with_data id _ sum = sum

abbrev pub with_any_data : Frame → ℕ → ℕ
with_any_data (frames.Body stream end bytes counted) sum = sum + length bytes
with_any_data _ sum = sum

-- the payload of DATA on a stream, with its padding
abbrev pub with_payload : ℕ → Frame → ℕ → ℕ
with_payload id (frames.Body stream end bytes counted) sum = if id == stream then sum + counted else sum
with_payload id _ sum = sum

-- the bytes of data that went on a stream
abbrev pub data_out : Record → ℕ → ℕ
data_out r id = sum_out (with_data id) 0 r

-- what may still go on the connection
abbrev pub connection_window_of : Record → ℤ
connection_window_of r = pos (sum_in (with_increment 0) first_window r) -ℤ pos (sum_out with_any_data 0 r)

-- What may still go on a stream. The changes of the initial size add up to its present value.
abbrev pub send_window_of : Record → ℕ → ℤ
send_window_of r id = pos (sum_in (with_increment id) (initial_of r) r) -ℤ pos (data_out r id)

-- what may still come on a stream
abbrev pub receive_window_of : Record → ℕ → ℤ
receive_window_of r id = pos (sum_out (with_increment id) first_window r) -ℤ pos (sum_in (with_payload id) 0 r)
