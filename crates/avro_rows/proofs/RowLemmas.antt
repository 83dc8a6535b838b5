-- Whole rows: that no datum begins another, and one cell more.
use Rattle.std.proofs.Common.{◌≡◌, ℕ, suc, ◌+◌, ◌-◌, ◌<◌, true, List, [], ◌∷◌, ◌++◌, length, take, drop, get_or, Option, Some, None, refl, sym, ◌∙◌, ap, append_assoc, append-nil, add-one, drop-cons, arith, length-append}
use Rattle.std.specs.Prelude.{slice_get, All}
use Rattle.std.specs.List.{cons_option, flat_map, AllByRecursion}
use Rattle.std.proofs.lemmas.Option.{slice_get-get_or}
use Rattle.std.proofs.lemmas.List.{take_more, take-append-drop}
use Rattle.std.proofs.lemmas.List.Elements.{filter_map-append, All-get_or, All-head, All-tail}
use Rattle.std.proofs.lemmas.Bool.{eqb-true, and_parts}
use Rattle.std.proofs.lemmas.List.Concat.{flat_map-cons}
use Rattle.column_types.specs.declared.column.Column.{Column}
use Rattle.column_types.specs.declared.cell.Cell.{Cell}
use Rattle.column_types.specs.Fields.{projected}
use Rattle.column_types.specs.Row.{Fits, fits_column}
use Rattle.column_types.proofs.FitsLemmas.{Fits-parts, Fits-cons}
use Rattle.avro_rows.specs.declared.rows.DatumFault.{DatumFault}
use Rattle.avro_rows.specs.declared.rows.DatumFault.TheVariants as fault
use Rattle.avro_rows.specs.Datum.{cell_datum, datum_of}
use Rattle.avro_rows.specs.Fault.{IsBadAt, Refuses}
use Rattle.avro_rows.proofs.CellLemmas.{cell-unique, cell-some}

Fits-short : (column : Column) (columns : List Column) → Fits (column ∷ columns) [] → ⊥
Fits-short column columns fits = let count : suc (length columns) ≡ 0 = eqb-true _ _ (and_parts _ _ fits).0 in omega arith

Fits-long : (x : Cell) (row : List Cell) → Fits [] (x ∷ row) → ⊥
Fits-long x row fits = let count : 0 ≡ suc (length row) = eqb-true _ _ (and_parts _ _ fits).0 in omega arith

-- no datum begins another
pub datum-unique : (columns : List Column) (row other : List Cell) (rest more : List ℕ) → Fits columns row → Fits columns other →
    datum_of columns row ++ rest ≡ datum_of columns other ++ more → (row ≡ other) × (rest ≡ more)
datum-unique [] [] [] rest more fits fine is = (refl, is)
datum-unique [] (x ∷ row) other rest more fits fine is = absurd (Fits-long x row fits)
datum-unique [] [] (y ∷ other) rest more fits fine is = absurd (Fits-long y other fine)
datum-unique (column ∷ columns) [] other rest more fits fine is = absurd (Fits-short column columns fits)
datum-unique (column ∷ columns) (x ∷ row) [] rest more fits fine is = absurd (Fits-short column columns fine)
datum-unique (column ∷ columns) (x ∷ row) (y ∷ other) rest more fits fine is =
    let a = Fits-parts column columns x row fits in
    let b = Fits-parts column columns y other fine in
    let first =
    cell-unique column x y (datum_of columns row ++ rest) (datum_of columns other ++ more) a.0 b.0
    (sym (append_assoc (cell_datum column.mode x) (datum_of columns row) rest) ∙ is ∙
    append_assoc (cell_datum column.mode y) (datum_of columns other) more)
    in
    let behind = datum-unique columns row other rest more a.1 b.1 first.1 in
    let head : x ≡ y = first.0 in
    let tail : row ≡ other = behind.0 in
    (cc, behind.1)

datum-some : (column : Column) (columns : List Column) (row : List Cell) (rest : List ℕ) → Fits (column ∷ columns) row → datum_of (column ∷ columns) row ++ rest ≡ [] → ⊥
datum-some column columns [] rest fits is = Fits-short column columns fits
datum-some column columns (x ∷ row) rest fits is =
    cell-some column x (datum_of columns row ++ rest) (Fits-parts column columns x row fits).0
    (sym (append_assoc (cell_datum column.mode x) (datum_of columns row) rest) ∙ is)

-- joined data are those of one list of rows
pub data-unique : (columns : List Column) (rows others : List (List Cell)) → 0 < length columns → AllByRecursion (Fits columns) rows → AllByRecursion (Fits columns) others →
    flat_map (datum_of columns) rows ≡ flat_map (datum_of columns) others → rows ≡ others
data-unique [] rows others some fits fine is = absurd (omega arith)
data-unique (column ∷ columns) [] [] some fits fine is = refl
data-unique (column ∷ columns) [] (other ∷ others) some fits fine is =
    absurd (datum-some column columns other (flat_map (datum_of (column ∷ columns)) others) fine.0
    (sym (is ∙ flat_map-cons (datum_of (column ∷ columns)) other others)))
data-unique (column ∷ columns) (row ∷ rows) [] some fits fine is =
    absurd (datum-some column columns row (flat_map (datum_of (column ∷ columns)) rows) fits.0
    (sym (flat_map-cons (datum_of (column ∷ columns)) row rows) ∙ is))
data-unique (column ∷ columns) (row ∷ rows) (other ∷ others) some fits fine is =
    let first =
    datum-unique (column ∷ columns) row other (flat_map (datum_of (column ∷ columns)) rows) (flat_map (datum_of (column ∷ columns)) others) fits.0 fine.0
    (sym (flat_map-cons (datum_of (column ∷ columns)) row rows) ∙ is ∙ flat_map-cons (datum_of (column ∷ columns)) other others)
    in
    let head : row ≡ other = first.0 in
    let tail : rows ≡ others = data-unique (column ∷ columns) rows others some fits.1 fine.1 first.1 in
    cc

-- One column more.

-- the column of a number
pub column-found : (columns : List Column) (numbers : List ℕ) (i : ℕ) (column : Column) → i < length numbers → All (λ number. number < length columns) numbers →
    column ≡ get_or columns (get_or numbers i 0) column → slice_get columns (get_or numbers i 0) ≡ Some column
column-found columns numbers i column h within e =
    slice_get-get_or columns (get_or numbers i 0) column (All-get_or (λ number. number < length columns) numbers i 0 h within) ∙ ap Some (sym e)

pub projected-drop : {A : Type 0} (items : List A) (numbers : List ℕ) (i : ℕ) (item : A) → i < length numbers → slice_get items (get_or numbers i 0) ≡ Some item →
    projected (drop i numbers) items ≡ item ∷ projected (drop (i + 1) numbers) items
projected-drop items numbers i item h found = rw (add-one, drop-cons numbers i 0, found) refl

projected-take : (columns : List Column) (numbers : List ℕ) (i : ℕ) (column : Column) → i < length numbers → slice_get columns (get_or numbers i 0) ≡ Some column →
    projected (take (i + 1) numbers) columns ≡ projected (take i numbers) columns ++ column ∷ []
projected-take columns numbers i column h found =
    ap (λ chosen. projected chosen columns) (take_more numbers i 0 h) ∙ filter_map-append (slice_get columns) (take i numbers) (get_or numbers i 0 ∷ []) ∙
    ap (λ more. projected (take i numbers) columns ++ cons_option more []) found

projected-parts : (columns : List Column) (numbers : List ℕ) (i : ℕ) (column : Column) → i < length numbers → slice_get columns (get_or numbers i 0) ≡ Some column →
    projected numbers columns ≡ projected (take i numbers) columns ++ column ∷ projected (drop (i + 1) numbers) columns
projected-parts columns numbers i column h found =
    ap (λ chosen. projected chosen columns) (sym (take-append-drop i numbers)) ∙ filter_map-append (slice_get columns) (take i numbers) (drop i numbers) ∙
    ap (λ more. projected (take i numbers) columns ++ more) (projected-drop columns numbers i column h found)

found-length : (o : Option Column) (column : Column) (columns : List Column) → o ≡ Some column → length (cons_option o columns) ≡ suc (length columns)
found-length None column columns e = absurd (cc)
found-length (Some other) column columns e = refl

within-found : (columns : List Column) (number : ℕ) → number < length columns → (column : Column) × (slice_get columns number ≡ Some column)
within-found [] number h = absurd (omega arith)
within-found (column ∷ columns) number h = (get_or (column ∷ columns) number column, slice_get-get_or (column ∷ columns) number column h)

-- each number is a column's
length-projected : (columns : List Column) (numbers : List ℕ) → All (λ number. number < length columns) numbers → length (projected numbers columns) ≡ length numbers
length-projected columns [] within = refl
length-projected columns (number ∷ numbers) within =
    let found = within-found columns number (All-head (λ other. other < length columns) number numbers within) in
    let more : length (projected numbers columns) ≡ length numbers =
    length-projected columns numbers (All-tail (λ other. other < length columns) number numbers within)
    in
    found-length (slice_get columns number) found.0 (projected numbers columns) found.1 ∙ ap suc more

-- a row that fits has a cell for each number
pub length-fits : (columns : List Column) (numbers : List ℕ) (row : List Cell) → All (λ number. number < length columns) numbers → Fits (projected numbers columns) row →
    length numbers ≡ length row
length-fits columns numbers row within fits =
    sym (length-projected columns numbers within) ∙ eqb-true (length (projected numbers columns)) (length row) (and_parts _ _ fits).0

-- Writing one cell more.

pub push-cell : (columns : List Column) (numbers : List ℕ) (cells : List Cell) (i : ℕ) (column : Column) (x : Cell) (out new whole : List ℕ) →
    i < length cells → length numbers ≡ length cells → All (λ number. number < length columns) numbers → column ≡ get_or columns (get_or numbers i 0) column → x ≡ get_or cells i x →
    new ≡ out ++ cell_datum column.mode x → out ++ datum_of (projected (drop i numbers) columns) (drop i cells) ≡ whole →
    new ++ datum_of (projected (drop (i + 1) numbers) columns) (drop (i + 1) cells) ≡ whole
push-cell columns numbers cells i column x out new whole h count within e f put is =
    let found = column-found columns numbers i column (omega arith) within e in
    let chosen : projected (drop i numbers) columns ≡ column ∷ projected (drop (i + 1) numbers) columns = projected-drop columns numbers i column (omega arith) found in
    let left : drop i cells ≡ x ∷ drop (i + 1) cells = rw (add-one, drop-cons cells i x, ← f) refl in
    let before : out ++ (cell_datum column.mode x ++ datum_of (projected (drop (i + 1) numbers) columns) (drop (i + 1) cells)) ≡ whole = rw (chosen, left) at is in
    ap (λ s. s ++ datum_of (projected (drop (i + 1) numbers) columns) (drop (i + 1) cells)) put ∙
    append_assoc out (cell_datum column.mode x) (datum_of (projected (drop (i + 1) numbers) columns) (drop (i + 1) cells)) ∙ before

pub push-chosen : (columns : List Column) (numbers : List ℕ) (cells : List Cell) (i : ℕ) (column : Column) (x : Cell) (out new whole : List ℕ) →
    i < length numbers → length columns ≡ length cells → All (λ number. number < length columns) numbers → column ≡ get_or columns (get_or numbers i 0) column →
    x ≡ get_or cells (get_or numbers i 0) x → new ≡ out ++ cell_datum column.mode x →
    out ++ datum_of (projected (drop i numbers) columns) (projected (drop i numbers) cells) ≡ whole →
    new ++ datum_of (projected (drop (i + 1) numbers) columns) (projected (drop (i + 1) numbers) cells) ≡ whole
push-chosen columns numbers cells i column x out new whole h count within e f put is =
    let low : get_or numbers i 0 < length columns = All-get_or (λ number. number < length columns) numbers i 0 h within in
    let cell : slice_get cells (get_or numbers i 0) ≡ Some x = slice_get-get_or cells (get_or numbers i 0) x (omega arith) ∙ ap Some (sym f) in
    let chosen : projected (drop i numbers) columns ≡ column ∷ projected (drop (i + 1) numbers) columns = projected-drop columns numbers i column h (column-found columns numbers i column h within e) in
    let left : projected (drop i numbers) cells ≡ x ∷ projected (drop (i + 1) numbers) cells = projected-drop cells numbers i x h cell in
    let before : out ++ (cell_datum column.mode x ++ datum_of (projected (drop (i + 1) numbers) columns) (projected (drop (i + 1) numbers) cells)) ≡ whole = rw (chosen, left) at is in
    ap (λ s. s ++ datum_of (projected (drop (i + 1) numbers) columns) (projected (drop (i + 1) numbers) cells)) put ∙
    append_assoc out (cell_datum column.mode x) (datum_of (projected (drop (i + 1) numbers) columns) (projected (drop (i + 1) numbers) cells)) ∙ before

-- a row that fits has a cell for each column
pub length-row : (columns : List Column) (row : List Cell) → Fits columns row → length columns ≡ length row
length-row columns row fits = eqb-true (length columns) (length row) (and_parts _ _ fits).0

-- Reading one cell more.

Fits-push : (before : List Column) (cells : List Cell) (column : Column) (x : Cell) → Fits before cells → fits_column column x ≡ true → Fits (before ++ column ∷ []) (cells ++ x ∷ [])
Fits-push [] [] column x fits good = Fits-cons column [] x [] good refl
Fits-push [] (y ∷ cells) column x fits good = absurd (Fits-long y cells fits)
Fits-push (other ∷ before) [] column x fits good = absurd (Fits-short other before fits)
Fits-push (other ∷ before) (y ∷ cells) column x fits good =
    let parts = Fits-parts other before y cells fits in
    Fits-cons other (before ++ column ∷ []) y (cells ++ x ∷ []) parts.0 (Fits-push before cells column x parts.1 good)

datum-push : (before : List Column) (cells : List Cell) (column : Column) (x : Cell) → Fits before cells →
    datum_of (before ++ column ∷ []) (cells ++ x ∷ []) ≡ datum_of before cells ++ cell_datum column.mode x
datum-push [] [] column x fits = append-nil (cell_datum column.mode x)
datum-push [] (y ∷ cells) column x fits = absurd (Fits-long y cells fits)
datum-push (other ∷ before) [] column x fits = absurd (Fits-short other before fits)
datum-push (other ∷ before) (y ∷ cells) column x fits =
    ap (λ s. cell_datum other.mode y ++ s) (datum-push before cells column x (Fits-parts other before y cells fits).1) ∙
    sym (append_assoc (cell_datum other.mode y) (datum_of before cells) (cell_datum column.mode x))

pub record ReadSoFar (columns : List Column) (cells : List Cell) (bytes rest : List ℕ) : Type 0 where
  pub fits : Fits columns cells
  pub read : bytes ≡ datum_of columns cells ++ rest

pub read-cell : (columns : List Column) (numbers : List ℕ) (cells new : List Cell) (i : ℕ) (column : Column) (x : Cell) (bytes rest behind : List ℕ) →
    i < length numbers → All (λ number. number < length columns) numbers → column ≡ get_or columns (get_or numbers i 0) column → new ≡ cells ++ x ∷ [] →
    fits_column column x ≡ true → rest ≡ cell_datum column.mode x ++ behind → ReadSoFar (projected (take i numbers) columns) cells bytes rest →
    ReadSoFar (projected (take (i + 1) numbers) columns) new bytes behind
read-cell columns numbers cells new i column x bytes rest behind h within e put good here so_far =
    let found = column-found columns numbers i column h within e in
    let chosen = projected-take columns numbers i column h found in
    let before : List Column = projected (take i numbers) columns in
    record {
      fits = rw (chosen, put) (Fits-push (projected (take i numbers) columns) cells column x so_far.fits good);
      read =
          rw (chosen, put, datum-push (projected (take i numbers) columns) cells column x so_far.fits)
          (so_far.read ∙ ap (λ s. datum_of (projected (take i numbers) columns) cells ++ s) here ∙
          sym (append_assoc (datum_of (projected (take i numbers) columns) cells) (cell_datum column.mode x) behind));
    }

-- Where a cell can't be read.

pub bad-here : (columns : List Column) (numbers : List ℕ) (cells : List Cell) (i : ℕ) (column : Column) (bytes rest : List ℕ) → i < length numbers →
    All (λ number. number < length columns) numbers → column ≡ get_or columns (get_or numbers i 0) column →
    ((value : Cell) (more : List ℕ) → fits_column column value ≡ true → rest ≡ cell_datum column.mode value ++ more → ⊥) →
    ReadSoFar (projected (take i numbers) columns) cells bytes rest → IsBadAt (projected numbers columns) bytes (length bytes - length rest)
bad-here columns numbers cells i column bytes rest h within e none so_far = record {
  before = projected (take i numbers) columns;
  column = column;
  behind = projected (drop (i + 1) numbers) columns;
  cells = cells;
  rest = rest;
  parts = projected-parts columns numbers i column h (column-found columns numbers i column h within e);
  fits = so_far.fits;
  read = so_far.read;
  place =
      let count : length bytes ≡ length (datum_of (projected (take i numbers) columns) cells ++ rest) = ap length so_far.read in
      omega (arith, length-append (datum_of (projected (take i numbers) columns) cells) rest);
  none = none;
}

-- The row's part before a column, and its cell in it.
record Split (before : List Column) (column : Column) (behind : List Column) (row : List Cell) : Type 0 where
  cells : List Cell
  cell : Cell
  more : List Cell
  fits : Fits before cells
  good : fits_column column cell ≡ true
  datum : datum_of (before ++ column ∷ behind) row ≡ datum_of before cells ++ (cell_datum column.mode cell ++ datum_of behind more)

split : (before : List Column) (column : Column) (behind : List Column) (row : List Cell) → Fits (before ++ column ∷ behind) row → Split before column behind row
split [] column behind [] fits = absurd (Fits-short column behind fits)
split [] column behind (x ∷ row) fits = record {
  cells = [];
  cell = x;
  more = row;
  fits = refl;
  good = (Fits-parts column behind x row fits).0;
  datum = refl;
}
split (other ∷ before) column behind [] fits = absurd (Fits-short other (before ++ column ∷ behind) fits)
split (other ∷ before) column behind (x ∷ row) fits =
    let parts = Fits-parts other (before ++ column ∷ behind) x row fits in
    let rest = split before column behind row parts.1 in
    record {
      cells = x ∷ rest.cells;
      cell = rest.cell;
      more = rest.more;
      fits = Fits-cons other before x rest.cells parts.0 rest.fits;
      good = rest.good;
      datum =
          ap (λ s. cell_datum other.mode x ++ s) rest.datum ∙
          sym (append_assoc (cell_datum other.mode x) (datum_of before rest.cells) (cell_datum column.mode rest.cell ++ datum_of behind rest.more));
    }

-- where a column can't be read no datum begins the bytes
pub bad-none : (columns : List Column) (bytes : List ℕ) (at : ℕ) → IsBadAt columns bytes at → (row : List Cell) (rest : List ℕ) → Fits columns row →
    bytes ≡ datum_of columns row ++ rest → ⊥
bad-none columns bytes at bad row rest fits is =
    let parts = split bad.before bad.column bad.behind row (rw bad.parts at fits) in
    let datum : List ℕ = cell_datum bad.column.mode parts.cell ++ datum_of bad.behind parts.more in
    let whole : bytes ≡ (datum_of bad.before parts.cells ++ (cell_datum bad.column.mode parts.cell ++ datum_of bad.behind parts.more)) ++ rest =
    is ∙ ap (λ chosen. datum_of chosen row ++ rest) bad.parts ∙ ap (λ s. s ++ rest) parts.datum
    in
    let same =
    datum-unique bad.before bad.cells parts.cells bad.rest ((cell_datum bad.column.mode parts.cell ++ datum_of bad.behind parts.more) ++ rest) bad.fits parts.fits
    (sym bad.read ∙ whole ∙
    append_assoc (datum_of bad.before parts.cells) (cell_datum bad.column.mode parts.cell ++ datum_of bad.behind parts.more) rest)
    in
    bad.none parts.cell (datum_of bad.behind parts.more ++ rest) parts.good
    (same.1 ∙ append_assoc (cell_datum bad.column.mode parts.cell) (datum_of bad.behind parts.more) rest)

-- so the fault is want of memory where a datum does
pub fault-again : (columns : List Column) (bytes : List ℕ) (f : DatumFault) → Refuses columns bytes f → (row : List Cell) (rest : List ℕ) → Fits columns row →
    bytes ≡ datum_of columns row ++ rest → f ≡ fault.Memory
fault-again columns bytes fault.Memory refused row rest fits is = refl
fault-again columns bytes (fault.BadDatum at) refused row rest fits is = absurd (bad-none columns bytes at refused row rest fits is)

pub found-again : (columns : List Column) (bytes rest behind : List ℕ) (found row : List Cell) → Fits columns found → bytes ≡ datum_of columns found ++ behind → Fits columns row →
    bytes ≡ datum_of columns row ++ rest → (found ≡ row) × (length bytes - length behind ≡ length (datum_of columns row))
found-again columns bytes rest behind found row good read fits is =
    let same = datum-unique columns found row behind rest good fits (sym read ∙ is) in
    let count : length bytes ≡ length (datum_of columns row ++ rest) = ap length is in
    let ends : length behind ≡ length rest = ap length same.1 in
    (same.0, omega (arith, length-append (datum_of columns row) rest))
