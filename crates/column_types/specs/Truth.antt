-- The truth of a predicate at a row, by SQL's three values. NULL in a comparison or before IN makes it unknown.
use Rattle.std.specs.Prelude.{ℕ, Bool, true, false, List, Option, Some, None, slice_get, unwrap_or, if◌then◌else◌}
use Rattle.std.specs.Ordering.{nat_cmp, int_cmp, bool_cmp}
use Rattle.std.specs.Cmp.Lexicographic.{slice_cmp}
use Rattle.std.specs.declared.cmp.Ordering.{Ordering}
use Rattle.std.specs.declared.cmp.Ordering.TheVariants as ordering
use Rattle.std.specs.List.{list_any}
use Rattle.column_types.specs.declared.cell.Cell.{Cell}
use Rattle.column_types.specs.declared.cell.Cell.TheVariants as cell
use Rattle.column_types.specs.declared.predicate.Op.{Op}
use Rattle.column_types.specs.declared.predicate.Op.TheVariants as op
use Rattle.column_types.specs.declared.predicate.Pred.{Pred, fold-Pred}
use Rattle.column_types.specs.declared.predicate.Pred.TheOpen.{Pred-F}
use Rattle.column_types.specs.declared.truths.Truth.{Truth}
use Rattle.column_types.specs.declared.truths.Truth.TheVariants as truth

-- NOT swaps yes and no, and keeps unknown
abbrev pub not_of : Truth → Truth
not_of truth.Yes = truth.No
not_of truth.No = truth.Yes
not_of truth.Unknown = truth.Unknown

-- AND is no where one is no, yes where both are yes, else unknown
abbrev pub and_of : Truth → Truth → Truth
and_of truth.No b = truth.No
and_of a truth.No = truth.No
and_of truth.Yes truth.Yes = truth.Yes
and_of _ _ = truth.Unknown

-- OR is yes where one is yes, no where both are no, else unknown
abbrev pub or_of : Truth → Truth → Truth
or_of truth.Yes b = truth.Yes
or_of a truth.Yes = truth.Yes
or_of truth.No truth.No = truth.No
or_of _ _ = truth.Unknown

abbrev pub truth_from : Bool → Truth
truth_from holds = if holds then truth.Yes else truth.No

-- How a value stands to another of its kind: FALSE below TRUE, texts by their bytes. NULL stands to nothing.
abbrev pub order_of : Cell → Cell → Option Ordering
order_of (cell.Int a) (cell.Int b) = Some (int_cmp a b)
order_of (cell.Bool a) (cell.Bool b) = Some (bool_cmp a b)
order_of (cell.Str a) (cell.Str b) = Some (slice_cmp nat_cmp a b)
order_of (cell.Date a) (cell.Date b) = Some (int_cmp a b)
order_of (cell.Timestamp a) (cell.Timestamp b) = Some (int_cmp a b)
order_of _ _ = None

abbrev pub holds_at : Op → Ordering → Bool
holds_at op.Eq ordering.Equal = true
holds_at op.Ne ordering.Less = true
holds_at op.Ne ordering.Greater = true
holds_at op.Lt ordering.Less = true
holds_at op.Le ordering.Less = true
holds_at op.Le ordering.Equal = true
holds_at op.Gt ordering.Greater = true
holds_at op.Ge ordering.Greater = true
holds_at op.Ge ordering.Equal = true
holds_at _ _ = false

abbrev pub comparison_of : Op → Option Ordering → Truth
comparison_of operation None = truth.Unknown
comparison_of operation (Some order) = truth_from (holds_at operation order)

abbrev pub is_equal : Option Ordering → Bool
is_equal None = false
is_equal (Some order) = holds_at op.Eq order

abbrev pub is_null : Cell → Bool
is_null cell.Null = true
is_null _ = false

-- IN: yes where one value is equal
abbrev pub among_of : Cell → List Cell → Truth
among_of value values =
    if is_null value then truth.Unknown else truth_from (list_any (λ literal. is_equal (order_of value literal)) values)

-- the cell of this column, and NULL where the row has none
abbrev pub cell_at : List Cell → ℕ → Cell
cell_at row number = unwrap_or (slice_get row number) cell.Null

-- One node, with the truth of each child in its place.
abbrev pub truth_at : List Cell → Pred-F Truth → Truth
truth_at row Pred-F.All = truth.Yes
truth_at row (Pred-F.Compare number operation value) = comparison_of operation (order_of (cell_at row number) value)
truth_at row (Pred-F.Among number values) = among_of (cell_at row number) values
truth_at row (Pred-F.IsNull number) = truth_from (is_null (cell_at row number))
truth_at row (Pred-F.And left right) = and_of left right
truth_at row (Pred-F.Or left right) = or_of left right
truth_at row (Pred-F.Not inner) = not_of inner

abbrev pub truth_of : Pred → List Cell → Truth
truth_of condition row = fold-Pred Truth (truth_at row) condition
