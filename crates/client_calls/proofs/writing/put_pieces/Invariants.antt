-- The pieces so far are written, and those of the rest are to come.
use Rattle.std.proofs.Common.{◌≡◌, ◌++◌, length}
use Rattle.std.specs.List.{flat_map}
use Rattle.h2_frames.specs.Spelling.{spelling}
use Rattle.client_calls.specs.Frames.{data_frames}
use Rattle.client_calls.proofs.writing.put_pieces.Given as goal

abbrev pub invariant-loop-rest : goal.invariant-loop-rest
invariant-loop-rest l = l.out.items ++ flat_map spelling (data_frames l.stream l.rest) ≡ l.fn.out.items ++ flat_map spelling (data_frames l.stream l.bytes)

abbrev pub decreases-loop-rest : goal.decreases-loop-rest
decreases-loop-rest l = length l.rest
