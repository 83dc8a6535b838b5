-- Whether a body may be polled.
use Rattle.std.specs.Prelude.{◌≡◌, ◌⊎◌, ℕ, ◌<◌, false, None, pos, ◌≤ℤ◌}
use Rattle.h2_record.specs.Record.{Record}
use Rattle.h2_record.specs.Resets.{is_live}
use Rattle.h2_record.specs.Faults.{first_fault_of}
use Rattle.h2_record.specs.Replies.{waiting_of}
use Rattle.h2_record.specs.Room.{room_in}
use Rattle.h2_conn.specs.Held.{Held}
use Rattle.h2_conn.specs.Stands.{Stands}

-- The windows of the stream leave no room, or a reply of it waits.
abbrev pub IsHeld : Held → (stream : ℕ) → Type 0
IsHeld c id = (r : Record) → Stands c r → first_fault_of r ≡ None → (room_in r id ≤ℤ pos 0) ⊎ (0 < waiting_of r id)

-- The stream lives no more, or no reply of it waits.
abbrev pub MayPoll : Held → (stream : ℕ) → Type 0
MayPoll c id = (r : Record) → Stands c r → first_fault_of r ≡ None → (is_live r id ≡ false) ⊎ (waiting_of r id ≡ 0)
