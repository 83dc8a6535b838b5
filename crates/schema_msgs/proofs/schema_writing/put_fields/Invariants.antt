-- What was written and what is to be written are the whole.
use Rattle.std.proofs.Common.{◌≡◌, ◌++◌, drop}
use Rattle.schema_msgs.proofs.OutlineLemmas.{flat}
use Rattle.schema_msgs.proofs.BytesLemmas.{head_within}
use Rattle.schema_msgs.proofs.schema_writing.put_fields.Given as goal

abbrev pub invariant-loop-i : goal.invariant-loop-i
invariant-loop-i l = l.out ++ flat (head_within l.number) (drop l.i l.fields) ≡ l.fn.out ++ flat (head_within l.number) l.fields
