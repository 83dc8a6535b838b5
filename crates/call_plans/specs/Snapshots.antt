-- The moment of a snapshot (google.protobuf.Timestamp).
use Rattle.std.specs.Prelude.{ℤ, pos, ◌+ℤ◌, ◌*ℤ◌, Bool, false, not, ◌&&◌, int_le, Option}
use Rattle.std.specs.Int.{int_div_euclid}
use Rattle.std.specs.Option.{option_map_or}
use Rattle.write_msgs.specs.declared.commit_parts.Timestamp.{Timestamp}
use Rattle.call_plans.specs.declared.sessions.TheConstants.{FIRST_SECOND, LAST_SECOND, LAST_NANO}

-- a second of the years 0001 to 9999, and the nanoseconds behind it
abbrev pub is_time : Timestamp → Bool
is_time time = int_le FIRST_SECOND time.seconds && int_le time.seconds LAST_SECOND && int_le (pos 0) time.nanos && int_le time.nanos LAST_NANO

-- a snapshot time that is none
abbrev pub is_bad_time : Option Timestamp → Bool
is_bad_time time = option_map_or (λ t. not (is_time t)) time false

-- in microseconds since 1970-01-01, rounded down
abbrev pub micros_of : Timestamp → ℤ
micros_of time = time.seconds *ℤ pos 1_000_000 +ℤ int_div_euclid time.nanos (pos 1_000)
