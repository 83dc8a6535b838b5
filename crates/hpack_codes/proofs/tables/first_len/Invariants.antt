use Rattle.std.proofs.Common.{◌-◌, ◌*◌, ◌^◌, ◌≤◌}
use Rattle.hpack_codes.specs.Code.{first_code}
use Rattle.hpack_codes.proofs.tables.first_len.Given as goal

abbrev pub invariant-loop-len : goal.invariant-loop-len
invariant-loop-len l = first_code l.len * 2 ^ (30 - l.len) ≤ l.window
