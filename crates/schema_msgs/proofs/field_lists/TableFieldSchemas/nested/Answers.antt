use Rattle.std.proofs.Common.{sym, ap, ◌∙◌}
use Rattle.schema_msgs.specs.Outline.{outline}
use Rattle.schema_msgs.proofs.OutlineLemmas.{outline-fields_at}
use Rattle.schema_msgs.proofs.field_lists.TableFieldSchemas.nested.Goals as goal

pub returns : goal.returns
returns c = c.as_slice.ensures.value ∙ sym (outline-fields_at c.self.inside.nested.items c.self.invariant) ∙ ap (outline 0) c.self.view_is
