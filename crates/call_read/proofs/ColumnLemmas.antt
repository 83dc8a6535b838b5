-- The lines of columns are the outline of their fields.
use Rattle.std.proofs.Common.{◌≡◌, ℕ, List, [], ◌∷◌, map, refl, sym, ap, ◌∙◌, arith}
use Rattle.column_types.specs.declared.column.Column.{Column}
use Rattle.schema_msgs.specs.Fields.{Fields}
use Rattle.schema_msgs.specs.Outline.{outline, fields_at, Nests, IsOutline}
use Rattle.schema_msgs.specs.OutlineCode.{fields_at-outline}
use Rattle.call_plans.specs.Columns.{fields_of}
use Rattle.call_read.specs.Lines.{line_of}

lines_nest : (most : ℕ) (columns : List Column) → Nests most (map line_of columns)
unfolding Nests
lines_nest most [] = tt
lines_nest most (column ∷ columns) = (omega arith, lines_nest 1 columns)

pub lines_are_outline : (columns : List Column) → IsOutline (map line_of columns)
lines_are_outline columns = lines_nest 0 columns

outline-fields : (columns : List Column) → outline 0 (fields_of columns) ≡ map line_of columns
unfolding outline fields_of
outline-fields [] = refl
outline-fields (column ∷ columns) = ap (λ lines. line_of column ∷ lines) (outline-fields columns)

-- fields of this outline are those of the columns
pub fields-by_lines : (fields : Fields) (columns : List Column) → outline 0 fields ≡ map line_of columns → fields ≡ fields_of columns
fields-by_lines fields columns told =
    sym (fields_at-outline 0 fields) ∙ ap (fields_at 0) (told ∙ sym (outline-fields columns)) ∙ fields_at-outline 0 (fields_of columns)
