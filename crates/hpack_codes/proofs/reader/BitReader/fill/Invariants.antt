use Rattle.std.proofs.Common.{◌≡◌, ◌-◌}
use Rattle.hpack_codes.specs.Reader.{left_of, IsSound}
use Rattle.hpack_codes.proofs.reader.BitReader.fill.Given as goal

abbrev pub invariant-loop-self : goal.invariant-loop-self
invariant-loop-self l = IsSound l.self l.bytes × (left_of l.self l.bytes ≡ left_of l.fn.self l.bytes)

abbrev pub decreases-loop-self : goal.decreases-loop-self
decreases-loop-self l = 30 - l.self.count
