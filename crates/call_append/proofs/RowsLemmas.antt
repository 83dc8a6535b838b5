-- Rows that can all be read have no fault.
use Rattle.std.proofs.Common.{◌≡◌, ℕ, ◌+◌, ◌<◌, List, [], ◌∷◌, length, take, map, Result, Ok, Err, refl, sym, ap, ◌∙◌, arith}
use Rattle.column_types.specs.declared.cell.Cell.{Cell}
use Rattle.row_descriptor.specs.declared.bound.BoundColumn.{BoundColumn}
use Rattle.row_decode.specs.declared.faults.RowWhy.{RowWhy}
use Rattle.row_decode.specs.declared.faults.RowFault.{RowFault}
use Rattle.row_decode.specs.declared.faults.TheConstants.{MAX_FAULTS}
use Rattle.row_decode.specs.Row.{row_of}
use Rattle.row_decode.specs.Rows.{with_fault, faults_from, faults_of}
use Rattle.row_decode.specs.Answers.{AreRows, AreFirstFaults}
use Rattle.call_append.specs.Rows.{read, unless_faulty, rows_or_faults}

read-Ok : (rows : List (List Cell)) → read (map Ok rows) ≡ rows
read-Ok [] = refl
read-Ok (row ∷ rows) = ap (λ (more : List (List Cell)). row ∷ more) (read-Ok rows)

ok_head : (x : Result (List Cell) RowWhy) (xs : List (Result (List Cell) RowWhy)) (rows : List (List Cell)) (more : List RowFault) (index : ℕ)
    → (x ∷ xs) ≡ map Ok rows → with_fault index x more ≡ more
ok_head (Ok row) xs rows more index e = refl
ok_head (Err cause) xs [] more index e = absurd cc
ok_head (Err cause) xs (row ∷ rows) more index e = absurd cc

ok_tail : (x : Result (List Cell) RowWhy) (xs : List (Result (List Cell) RowWhy)) (rows : List (List Cell))
    → (x ∷ xs) ≡ map Ok rows → (others : List (List Cell)) × (xs ≡ map Ok others)
ok_tail x xs [] e = absurd cc
ok_tail x xs (row ∷ rows) e = (rows, cc)

no_fault : (binding : List BoundColumn) (index : ℕ) (rows : List (List ℕ)) (decoded : List (List Cell)) → AreRows binding rows decoded → faults_from binding index rows ≡ []
no_fault binding index [] decoded e = refl
no_fault binding index (bytes ∷ rows) decoded e =
    let tail = ok_tail (row_of binding bytes) (map (row_of binding) rows) decoded e in
    ok_head (row_of binding bytes) (map (row_of binding) rows) decoded (faults_from binding (index + 1) rows) index e ∙ no_fault binding (index + 1) rows tail.0 tail.1

pub all_rows : (binding : List BoundColumn) (rows : List (List ℕ)) (decoded : List (List Cell)) → AreRows binding rows decoded → rows_or_faults binding rows ≡ Ok decoded
all_rows binding rows decoded e =
    ap (λ (faults : List RowFault). unless_faulty (read (map (row_of binding) rows)) (take MAX_FAULTS faults)) (no_fault binding 0 rows decoded e)
    ∙ ap (λ (some : List (List Cell)). unless_faulty some []) (ap read e ∙ read-Ok decoded)

some_fault : (rows : List (List Cell)) (first faults : List RowFault) → faults ≡ first → 0 < length faults → unless_faulty rows first ≡ Err faults
some_fault rows [] [] same some = absurd (omega (arith, some))
some_fault rows [] (fault ∷ faults) same some = absurd cc
some_fault rows (fault ∷ first) faults same some = ap Err (sym same)

pub first_faults : (binding : List BoundColumn) (rows : List (List ℕ)) (faults : List RowFault) → AreFirstFaults binding rows faults → rows_or_faults binding rows ≡ Err faults
first_faults binding rows faults h = some_fault (read (map (row_of binding) rows)) (take MAX_FAULTS (faults_of binding rows)) faults h.first h.some
