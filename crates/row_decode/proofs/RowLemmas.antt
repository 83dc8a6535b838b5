-- On the cells of a row and the faults of rows, as far as they are read.
use Rattle.std.proofs.Common.{◌≡◌, ℕ, zero, suc, ◌+◌, ◌<◌, ◌≤◌, Bool, true, false, List, [], ◌∷◌, ◌++◌, length, take, get_or, min, Result, Ok, Err, refl, sym, ap, ◌∙◌, append_assoc, arith}
use Rattle.std.proofs.Math.Seq.{take-append_seam}
use Rattle.std.proofs.lemmas.List.{append-nil, take_all, length-take}
use Rattle.std.specs.Prelude.{if◌then◌else◌, slice_get, Some}
use Rattle.std.specs.Str.{is_utf8, IsUtf8}
use Rattle.std.proofs.lemmas.Str.{IsUtf8-from_is_utf8, is_utf8-from_IsUtf8}
use Rattle.column_types.specs.declared.cell.Cell.{Cell}
use Rattle.column_types.specs.declared.cell.Cell.TheVariants as cell
use Rattle.row_descriptor.specs.declared.bound.BoundColumn.{BoundColumn}
use Rattle.row_decode.specs.declared.faults.RowWhy.{RowWhy}
use Rattle.row_decode.specs.declared.faults.RowWhy.TheVariants as why
use Rattle.row_decode.specs.declared.faults.RowFault.{RowFault}
use Rattle.row_decode.specs.Cell.{text_cell}
use Rattle.row_decode.specs.Row.{in_front, row_of}
use Rattle.row_decode.specs.Rows.{with_fault, faults_from}
use Rattle.row_decode.specs.Answers.{Decodes, Refuses}

-- the cells read so far, in front of what the other columns give
abbrev pub with_cells : List Cell → Result (List Cell) RowWhy → Result (List Cell) RowWhy
with_cells front (Ok others) = Ok (front ++ others)
with_cells front (Err e) = Err e

pub with_cells-nil : (r : Result (List Cell) RowWhy) → with_cells [] r ≡ r
with_cells-nil (Ok others) = refl
with_cells-nil (Err e) = refl

pub with_cells-more : (front : List Cell) (x : Cell) (r : Result (List Cell) RowWhy) → with_cells (front ++ x ∷ []) r ≡ with_cells front (in_front (Ok x) r)
with_cells-more front x (Ok others) = ap Ok (append_assoc front (x ∷ []) others)
with_cells-more front x (Err e) = refl

-- what equals a definition is an answer by it
pub Decodes-same : (r answer : Result Cell RowWhy) → r ≡ answer → Decodes (λ cell. cell) r answer
Decodes-same (Ok x) answer e = sym e
Decodes-same (Err why.Memory) answer e = tt
Decodes-same (Err why.Malformed) answer e = sym e
Decodes-same (Err (why.BadText column)) answer e = sym e
Decodes-same (Err (why.OutOfRange column)) answer e = sym e
Decodes-same (Err (why.Missing column)) answer e = sym e

pub text_cell-good : (at : ℕ) (bytes : List ℕ) → IsUtf8 bytes → text_cell at bytes ≡ Ok (cell.Str bytes)
text_cell-good at bytes h = rw (is_utf8-from_IsUtf8 bytes h) refl

bad_by : (at : ℕ) (bytes : List ℕ) (t : Bool) → (t ≡ true → ⊥) → (if t then Ok (cell.Str bytes) else Err (why.BadText at)) ≡ Err (why.BadText at)
bad_by at bytes true h = absurd (h refl)
bad_by at bytes false h = refl

pub text_cell-bad : (at : ℕ) (bytes : List ℕ) → (IsUtf8 bytes → ⊥) → text_cell at bytes ≡ Err (why.BadText at)
text_cell-bad at bytes h = bad_by at bytes (is_utf8 bytes) (λ e. h (IsUtf8-from_is_utf8 bytes e))

-- a fault stands among the others
some_more : (index : ℕ) (r : Result (List Cell) RowWhy) (others : List RowFault) → 0 < length others → 0 < length (with_fault index r others)
some_more index (Ok row) others h = h
some_more index (Err e) others h = omega arith

pub faults_from-some : (binding : List BoundColumn) (index : ℕ) (rows : List (List ℕ)) (i : ℕ) (x : List ℕ) (e : RowWhy) → i < length rows → slice_get rows i ≡ Some x → row_of binding x ≡ Err e → 0 < length (faults_from binding index rows)
faults_from-some binding index [] i x e h is bad = absurd (omega arith)
faults_from-some binding index (bytes ∷ rows) zero x e h is bad =
    let same : bytes ≡ x = cc in
    let here : row_of binding bytes ≡ Err e = rw same bad in
    let some : 0 < suc (length (faults_from binding (index + 1) rows)) = omega arith in
    rw here some
faults_from-some binding index (bytes ∷ rows) (suc i) x e h is bad = some_more index (row_of binding bytes) _ (faults_from-some binding (index + 1) rows i x e (omega arith) is bad)

-- the first of a list, where they are as many as are named, or all
pub first-full : {A : Type 0} (n : ℕ) (xs ys all : List A) → xs ++ ys ≡ all → length xs ≡ n → xs ≡ take n all
first-full n xs ys all e h = sym (rw (← e, ← h) (take-append_seam xs ys))

pub first-all : {A : Type 0} (n : ℕ) (xs ys all : List A) → xs ++ ys ≡ all → ys ≡ [] → length xs ≤ n → xs ≡ take n all
first-all n xs ys all e none h =
    let whole : xs ≡ all = sym (append-nil xs) ∙ ap (λ t. xs ++ t) (sym none) ∙ e in
    rw (← whole) (sym (take_all n xs h))

pub some-first : {A : Type 0} (n : ℕ) (xs all : List A) → xs ≡ take n all → 0 < n → 0 < length all → 0 < length xs
some-first n xs all e h k = rw (e, length-take n all) (omega arith)

-- a fault is not want of memory
pub Refuses-other : {Y : Type 0} (e : RowWhy) (answer : Result Y RowWhy) → (e ≡ why.Memory → ⊥) → Refuses e answer → answer ≡ Err e
Refuses-other why.Memory answer other h = absurd (other refl)
Refuses-other why.Malformed answer other h = h
Refuses-other (why.BadText column) answer other h = h
Refuses-other (why.OutOfRange column) answer other h = h
Refuses-other (why.Missing column) answer other h = h

-- the element at a place, as a slice gives it
pub slice_get-here : {A : Type 0} (xs : List A) (i : ℕ) (x : A) → i < length xs → x ≡ get_or xs i x → slice_get xs i ≡ Some x
slice_get-here [] i x h is = absurd (omega arith)
slice_get-here (y ∷ ys) zero x h is = ap Some (sym is)
slice_get-here (y ∷ ys) (suc i) x h is = slice_get-here ys i x (omega arith) is
