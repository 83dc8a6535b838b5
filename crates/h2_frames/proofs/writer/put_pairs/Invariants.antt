use Rattle.std.proofs.Common.{◌≡◌, ◌+◌, ◌*◌, ◌≤◌, ◌++◌, length, take}
use Rattle.std.specs.List.{flat_map}
use Rattle.std.specs.Vec.{vec_len, vec_capacity}
use Rattle.h2_frames.specs.Spelling.{pair_bytes}
use Rattle.h2_frames.proofs.writer.put_pairs.Given as goal

-- the pairs so far, six bytes each, and room for the others
abbrev pub invariant-loop-pair : goal.invariant-loop-pair
invariant-loop-pair l = record {
  bytes : l.out.items ≡ l.fn.out.items ++ flat_map pair_bytes (take l.pair-index l.pairs);
  room : vec_len l.out + 6 * length l.pairs ≤ vec_capacity l.out + 6 * l.pair-index;
}
