use Rattle.std.proofs.Common.{refl}
use Rattle.schema_msgs.specs.Outline.{Nests, fields_at}
use Rattle.schema_msgs.proofs.field_lists.TableFieldSchemas.none.Goals as goal

pub invariant_of-result : goal.invariant_of-result
unfolding Nests
invariant_of-result c = rw c.new.ensures.items tt

pub returns : goal.returns
unfolding fields_at
returns c = rw c.new.ensures.items refl
