-- Why bytes have no datum at their front.
use Rattle.std.specs.Prelude.{◌≡◌, ℕ, List, ◌∷◌, ◌++◌, length, IsTrue}
use Rattle.column_types.specs.declared.column.Column.{Column}
use Rattle.column_types.specs.declared.cell.Cell.{Cell}
use Rattle.column_types.specs.Row.{Fits, fits_column}
use Rattle.avro_rows.specs.declared.rows.DatumFault.{DatumFault}
use Rattle.avro_rows.specs.declared.rows.DatumFault.TheVariants as fault
use Rattle.avro_rows.specs.Datum.{cell_datum, datum_of}

-- Cells are read for the columns before one, up to this place. There no cell that fits the column is spelled.
pub record IsBadAt (columns : List Column) (bytes : List ℕ) (at : ℕ) : Type 0 where
  pub before : List Column
  pub column : Column
  pub behind : List Column
  pub cells : List Cell
  pub rest : List ℕ
  pub parts : columns ≡ before ++ column ∷ behind
  pub fits : Fits before cells
  pub read : bytes ≡ datum_of before cells ++ rest
  pub place : at ≡ length (datum_of before cells)
  pub none : (value : Cell) (more : List ℕ) → IsTrue (fits_column column value) → rest ≡ cell_datum column.mode value ++ more → ⊥

abbrev pub Refuses : List Column → List ℕ → DatumFault → Type 0
Refuses columns bytes fault.Memory = Unit {0}
Refuses columns bytes (fault.BadDatum at) = IsBadAt columns bytes at
