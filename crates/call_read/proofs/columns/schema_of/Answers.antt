use Rattle.std.proofs.Common.{ap, subst, sym, ◌∙◌}
use Rattle.schema_msgs.specs.Fields.{Fields}
use Rattle.schema_msgs.specs.Outline.{IsOutline}
use Rattle.call_read.proofs.ColumnLemmas.{lines_are_outline, fields-by_lines}
use Rattle.call_read.proofs.columns.schema_of.Goals as goal

pub from_vec-fields-requires : goal.from_vec-fields-requires
from_vec-fields-requires c = subst IsOutline (sym c.in_ok-lines.ensures) (lines_are_outline c.args.columns.now)

pub returns : goal.returns
returns c =
    ap (λ (fields : Fields). record { fields = fields }) (fields-by_lines c.from_vec-fields.result c.args.columns.now (c.from_vec-fields.ensures ∙ c.in_ok-lines.ensures))
