-- When a predicate is typed for a schema: each column in it is a number of one of the columns, and each value that
-- a column is compared with isn't NULL, is of the column's kind and within its range, and its column isn't BYTES.
use Rattle.std.specs.Prelude.{ℕ, Bool, true, false, ◌&&◌, List, length, nat_lt, slice_get, IsTrue}
use Rattle.std.specs.List.{list_all}
use Rattle.std.specs.Option.{option_map_or}
use Rattle.column_types.specs.declared.column.Kind.{Kind}
use Rattle.column_types.specs.declared.column.Kind.TheVariants as kind
use Rattle.column_types.specs.declared.column.Column.{Column}
use Rattle.column_types.specs.declared.cell.Cell.{Cell}
use Rattle.column_types.specs.declared.predicate.Pred.{Pred, fold-Pred}
use Rattle.column_types.specs.declared.predicate.Pred.TheOpen.{Pred-F}
use Rattle.column_types.specs.Row.{is_of_kind}

abbrev pub is_literal : Kind → Cell → Bool
is_literal kind.Bytes value = false
is_literal other value = is_of_kind other value

-- the column is there, and may be compared with the value
abbrev pub compares : List Column → ℕ → Cell → Bool
compares columns number value = option_map_or (λ column. is_literal column.kind value) (slice_get columns number) false

-- One node, where it is known of each child whether it is typed.
abbrev pub is_typed_at : List Column → Pred-F Bool → Bool
is_typed_at columns Pred-F.All = true
is_typed_at columns (Pred-F.Compare number op value) = compares columns number value
is_typed_at columns (Pred-F.Among number values) = nat_lt 0 (length values) && list_all (compares columns number) values
is_typed_at columns (Pred-F.IsNull number) = nat_lt number (length columns)
is_typed_at columns (Pred-F.And left right) = left && right
is_typed_at columns (Pred-F.Or left right) = left && right
is_typed_at columns (Pred-F.Not inner) = inner

abbrev pub is_typed : List Column → Pred → Bool
is_typed columns condition = fold-Pred Bool (is_typed_at columns) condition

abbrev pub IsTyped : List Column → Pred → Type 0
IsTyped columns condition = IsTrue (is_typed columns condition)
