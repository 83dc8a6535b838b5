use Rattle.std.proofs.Common.{sym, ap, ◌∙◌}
use Rattle.schema_msgs.specs.Outline.{outline}
use Rattle.schema_msgs.proofs.OutlineLemmas.{outline-fields_at}
use Rattle.schema_msgs.proofs.field_lists.TableFieldSchemas.into_vec.Goals as goal

pub returns : goal.returns
returns c = sym (outline-fields_at c.self.inside.nested.items c.self.invariant) ∙ ap (outline 0) c.self.view_is
