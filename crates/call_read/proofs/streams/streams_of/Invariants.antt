-- The streams so far are those of the texts so far.
use Rattle.std.proofs.Common.{take}
use Rattle.call_read.specs.Streams.{AreNamed}
use Rattle.call_read.proofs.streams.streams_of.Given as goal

abbrev pub invariant-loop-text : goal.invariant-loop-text
invariant-loop-text l = AreNamed l.table (take l.text-index l.texts) l.refs.items l.has_other_table
