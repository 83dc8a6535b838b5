-- What may still be given on a stream so that it can go at once.
use Rattle.std.specs.Prelude.{ℕ, length, ℤ, pos, ◌-ℤ◌}
use Rattle.std.specs.Int.{int_min}
use Rattle.std.specs.List.{concat}
use Rattle.h2_record.specs.Record.{Record}
use Rattle.h2_record.specs.Windows.{send_window_of, connection_window_of}
use Rattle.h2_record.specs.Replies.{unwritten_of}

-- the lesser of the two send windows (RFC 9113 section 6.9.1), less the bytes that wait; it may be negative
abbrev pub room_in : Record → ℕ → ℤ
room_in r id = int_min (send_window_of r id) (connection_window_of r) -ℤ pos (length (concat (unwritten_of r id)))
