use Rattle.std.proofs.Common.{ap, sym, ◌∙◌}
use Rattle.schema_msgs.specs.Outline.{fields_at}
use Rattle.schema_msgs.specs.OutlineCode.{fields_at-outline}
use Rattle.schema_msgs.proofs.OutlineLemmas.{outline-fields_at, columns_are_outline}
use Rattle.schema_msgs.proofs.laws.outlines_are_fields.Goals as goal

pub returns-clause-told : goal.returns-clause-told
returns-clause-told c = λ fs gs same. sym (fields_at-outline 0 fs) ∙ ap (fields_at 0) same ∙ fields_at-outline 0 gs

pub returns-clause-found : goal.returns-clause-found
returns-clause-found c = λ fs nests. (fields_at 0 fs, outline-fields_at fs nests)

pub returns-clause-columns : goal.returns-clause-columns
returns-clause-columns c = columns_are_outline
