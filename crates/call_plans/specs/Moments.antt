-- A moment as the messages carry it (google.protobuf.Timestamp).
use Rattle.std.specs.Prelude.{ℤ, pos, ◌*ℤ◌}
use Rattle.std.specs.Int.{int_div_euclid, int_rem_euclid}
use Rattle.write_msgs.specs.declared.commit_parts.Timestamp.{Timestamp}

-- Microseconds since 1970-01-01 as whole seconds, and the nanoseconds behind them, which count forward.
abbrev pub timestamp : (micros : ℤ) → Timestamp
timestamp micros = record {
  seconds = int_div_euclid micros (pos 1_000_000);
  nanos = int_rem_euclid micros (pos 1_000_000) *ℤ pos 1_000;
}
