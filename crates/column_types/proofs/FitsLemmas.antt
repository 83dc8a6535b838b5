-- A row that fits, cell by cell; and that its cells at some columns fit these columns.
use Rattle.std.proofs.Common.{◌≡◌, ℕ, zero, suc, List, [], ◌∷◌, length, Option, Some, None, refl, arith}
use Rattle.std.specs.Prelude.{◌==◌, slice_get, IsTrue}
use Rattle.std.specs.List.{cons_option}
use Rattle.std.proofs.lemmas.Bool.{and_parts, and_from, eqb-true, eq-eqb}
use Rattle.column_types.specs.declared.column.Column.{Column}
use Rattle.column_types.specs.declared.cell.Cell.{Cell}
use Rattle.column_types.specs.Row.{Fits, fits_column}
use Rattle.column_types.specs.Fields.{projected}

-- the first cell fits the first column, and the others the others
pub Fits-parts : (column : Column) (columns : List Column) (cell : Cell) (row : List Cell) → Fits (column ∷ columns) (cell ∷ row) → IsTrue (fits_column column cell) × Fits columns row
Fits-parts column columns cell row fits =
    let parts = and_parts (suc (length columns) == suc (length row)) _ fits in
    let cells = and_parts (fits_column column cell) _ parts.1 in
    (cells.0, and_from _ _ (eq-eqb _ _ (let e : suc (length columns) ≡ suc (length row) = eqb-true _ _ parts.0 in omega arith)) cells.1)

pub Fits-cons : (column : Column) (columns : List Column) (cell : Cell) (row : List Cell) → IsTrue (fits_column column cell) → Fits columns row → Fits (column ∷ columns) (cell ∷ row)
Fits-cons column columns cell row first more =
    let parts = and_parts (length columns == length row) _ more in
    and_from _ _ (eq-eqb _ _ (let e : length columns ≡ length row = eqb-true _ _ parts.0 in omega arith)) (and_from _ _ first parts.1)

Fits-short : (column : Column) (columns : List Column) → Fits (column ∷ columns) [] → ⊥
Fits-short column columns fits =
    let e : suc (length columns) ≡ 0 = eqb-true _ _ (and_parts _ _ fits).0 in
    omega arith

Fits-long : (cell : Cell) (row : List Cell) → Fits [] (cell ∷ row) → ⊥
Fits-long cell row fits =
    let e : 0 ≡ suc (length row) = eqb-true _ _ (and_parts _ _ fits).0 in
    omega arith

-- both are there and fit, or neither is there
abbrev FitsAt : Option Column → Option Cell → Type 0
FitsAt None None = Unit {0}
FitsAt None (Some cell) = ⊥
FitsAt (Some column) None = ⊥
FitsAt (Some column) (Some cell) = IsTrue (fits_column column cell)

Fits-at : (columns : List Column) (row : List Cell) → Fits columns row → (number : ℕ) → FitsAt (slice_get columns number) (slice_get row number)
Fits-at [] [] fits number = tt
Fits-at [] (cell ∷ row) fits number = absurd (Fits-long cell row fits)
Fits-at (column ∷ columns) [] fits number = absurd (Fits-short column columns fits)
Fits-at (column ∷ columns) (cell ∷ row) fits zero = (Fits-parts column columns cell row fits).0
Fits-at (column ∷ columns) (cell ∷ row) fits (suc number) = Fits-at columns row (Fits-parts column columns cell row fits).1 number

fits_more : (column : Option Column) (cell : Option Cell) (columns : List Column) (row : List Cell) → FitsAt column cell → Fits columns row → Fits (cons_option column columns) (cons_option cell row)
fits_more None None columns row here more = more
fits_more None (Some cell) columns row here more = absurd here
fits_more (Some column) None columns row here more = absurd here
fits_more (Some column) (Some cell) columns row here more = Fits-cons column columns cell row here more

-- the cells at some columns fit these columns
pub Fits-projected : (fields : List ℕ) (columns : List Column) (row : List Cell) → Fits columns row → Fits (projected fields columns) (projected fields row)
Fits-projected [] columns row fits = refl
Fits-projected (number ∷ fields) columns row fits =
    fits_more (slice_get columns number) (slice_get row number) (projected fields columns) (projected fields row)
    (Fits-at columns row fits number) (Fits-projected fields columns row fits)
