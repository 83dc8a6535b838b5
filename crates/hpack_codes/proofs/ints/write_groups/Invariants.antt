use Rattle.std.proofs.Common.{◌++◌, take}
use Rattle.hpack_codes.specs.Integers.{groups}
use Rattle.hpack_codes.proofs.IntegerLemmas.{IsPart}
use Rattle.hpack_codes.proofs.ints.write_groups.Given as goal

abbrev pub invariant-loop-rest : goal.invariant-loop-rest
invariant-loop-rest l = IsPart l.octets l.len l.rest (take 1 l.fn.octets ++ groups 4 l.fn.v)

abbrev pub decreases-loop-rest : goal.decreases-loop-rest
decreases-loop-rest l = l.rest
