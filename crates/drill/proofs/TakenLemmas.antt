-- The drill's commands are some that its table takes.
use Rattle.std.proofs.lemmas.Str.{is_utf8-from_IsUtf8, IsUtf8-from_ascii}
use Rattle.std.proofs.Common.{rules, ◌≡◌, ℕ, zero, suc, ◌+◌, ◌*◌, ◌%◌, ◌^◌, ◌==◌, ◌<◌, ◌≤◌, ℤ, ◌≤ℤ◌, Bool, true, false, ◌&&◌, nat_lt, List, [], ◌∷◌, length, map, refl, sym, ap, ◌∙◌, subst, if◌then◌else◌, arith}
use Rattle.std.specs.Prelude.{pos, int_le, sum_by, codes, All, IsTrue, Option}
use Rattle.std.specs.List.{range_with_len}
use Rattle.std.proofs.lemmas.Bool.{and_from}
use Rattle.std.proofs.lemmas.Int.{ints}
use Rattle.std.proofs.lemmas.List.Elements.{All-nil, All-cons}
use Rattle.std.proofs.lemmas.List.Sums.{sum_by-cons}
use Rattle.column_types.specs.declared.cell.Cell.{Cell}
use Rattle.column_types.specs.declared.cell.Cell.TheVariants as cell
use Rattle.column_types.specs.declared.column.Column.{Column}
use Rattle.column_types.specs.declared.column.Kind.TheVariants as kind
use Rattle.column_types.specs.declared.column.Mode.TheVariants as mode
use Rattle.column_types.specs.declared.ranges.TheConstants.{LEAST_INT64, GREATEST_INT64}
use Rattle.column_types.specs.declared.predicate.Op.{Op}
use Rattle.column_types.specs.declared.predicate.Op.TheVariants as op
use Rattle.column_types.specs.declared.predicate.Pred.{Pred}
use Rattle.column_types.specs.declared.predicate.Pred as pred
use Rattle.column_types.specs.declared.predicate.Pred.TheFolds.{fold-roll-Pred}
use Rattle.column_types.specs.declared.predicate.Pred.TheOpen.{Pred-F}
use Rattle.column_types.specs.declared.predicate.Pred.TheVariants.{rolls-Compare, rolls-IsNull, rolls-Or}
use Rattle.column_types.specs.declared.row.Row.{Row}
use Rattle.column_types.specs.Row.{Fits, fits_column}
use Rattle.column_types.specs.Sizes.{bytes_of_cell, bytes_of_row}
use Rattle.column_types.specs.Typed.{compares, is_typed_at, is_typed, IsTyped}
use Rattle.column_types.proofs.FieldLemmas.{IsMadeFor-all}
use Rattle.column_types.proofs.FitsLemmas.{Fits-cons}
use Rattle.table_model.specs.declared.commands.Command.{Command}
use Rattle.table_model.specs.declared.commands.Command.TheVariants as command
use Rattle.table_model.specs.declared.streams.StreamRef.{StreamRef}
use Rattle.table_model.specs.Legal.{Takes}
use Rattle.drill.specs.Rows.{batch_length, batch_of, id_of, row_of, rows_before, tag_of}
use Rattle.drill.specs.Table.{columns, restriction, last_session}
use Rattle.drill.proofs.RowLemmas.{rows_few, batch_few}

-- ---- the session

typed-null : (at : ℕ) → is_typed columns (pred.IsNull at) ≡ nat_lt at (length columns)
typed-null at = ap (is_typed columns) (sym (rolls-IsNull at)) ∙ fold-roll-Pred Bool (is_typed_at columns) (Pred-F.IsNull at)

typed-compare : (at : ℕ) (how : Op) (value : Cell) → is_typed columns (pred.Compare at how value) ≡ compares columns at value
typed-compare at how value = ap (is_typed columns) (sym (rolls-Compare at how value)) ∙ fold-roll-Pred Bool (is_typed_at columns) (Pred-F.Compare at how value)

typed-or : (left right : Pred) → is_typed columns (pred.Or left right) ≡ (is_typed columns left && is_typed columns right)
typed-or left right = ap (is_typed columns) (sym (rolls-Or left right)) ∙ fold-roll-Pred Bool (is_typed_at columns) (Pred-F.Or left right)

restriction_typed : IsTyped columns restriction
restriction_typed =
    typed-or (pred.IsNull 1) (pred.Compare 0 op.Lt (cell.Int (pos 1000000)))
    ∙ and_from (is_typed columns (pred.IsNull 1)) (is_typed columns (pred.Compare 0 op.Lt (cell.Int (pos 1000000)))) (typed-null 1)
    (typed-compare 0 op.Lt (cell.Int (pos 1000000)))

session_taken : Takes columns last_session
session_taken = record { fits = (restriction_typed, IsMadeFor-all columns (omega arith)); places = tt }

pub takes_session : (given : List Column) (asked : Command) → given ≡ columns → asked ≡ last_session → Takes given asked
takes_session given asked are is = subst (λ c. Takes given c) (sym is) (subst (λ cs. Takes cs last_session) (sym are) session_taken)

-- ---- the rows of a batch

abbrev id_column : Column
id_column = record { name = codes "id"; kind = kind.Int64; mode = mode.Required }

abbrev tag_column : Column
tag_column = record { name = codes "tag"; kind = kind.Str; mode = mode.Nullable }

tag_fits : (even : Bool) → IsTrue (fits_column tag_column (if even then cell.Str (codes "even") else cell.Null))
tag_fits true = is_utf8-from_IsUtf8 (codes "even") (IsUtf8-from_ascii (codes "even") (search rules))
tag_fits false = refl

id_fits : (id : ℕ) → id < 2 ^ 32 → IsTrue (fits_column id_column (cell.Int (pos id)))
id_fits id small =
    let low : LEAST_INT64 ≤ℤ pos id = omega (arith, ints) in
    let high : pos id ≤ℤ GREATEST_INT64 = omega (arith, ints) in
    let first : int_le LEAST_INT64 (pos id) ≡ true = grind (arith, ints) in
    let last : int_le (pos id) GREATEST_INT64 ≡ true = grind (arith, ints) in
    and_from (int_le LEAST_INT64 (pos id)) (int_le (pos id) GREATEST_INT64) first last

row_fits : (writer number : ℕ) → writer < 4 → number < 100000 → Fits columns (row_of writer number)
row_fits writer number writers few =
    let id : ℕ = id_of writer number in
    let tag : Cell = tag_of id in
    Fits-cons id_column (tag_column ∷ []) (cell.Int (pos id)) (tag ∷ []) (id_fits id (omega arith)) (Fits-cons tag_column [] tag [] (tag_fits (id % 2 == 0)) refl)

tag_bytes : (even : Bool) → bytes_of_cell (if even then cell.Str (codes "even") else cell.Null) ≤ 4
tag_bytes true = omega arith
tag_bytes false = omega arith

row_bytes : (writer number : ℕ) → bytes_of_row (row_of writer number) ≤ 11
row_bytes writer number = let tag = tag_bytes (id_of writer number % 2 == 0) in omega (arith, tag)

rows_fit : (writer first count : ℕ) → writer < 4 → first + count ≤ 100000 → All (Fits columns) (map (row_of writer) (range_with_len first count))
rows_fit writer first zero writers few = All-nil (Fits columns)
rows_fit writer first (suc count) writers few =
    All-cons (Fits columns) (row_of writer first) (map (row_of writer) (range_with_len (first + 1) count)) (row_fits writer first writers (omega arith))
    (rows_fit writer (first + 1) count writers (omega arith))

rows_bytes : (writer first count : ℕ) → sum_by bytes_of_row (map (row_of writer) (range_with_len first count)) ≤ 11 * count
rows_bytes writer first zero = omega arith
rows_bytes writer first (suc count) =
    omega (
      arith,
      row_bytes writer first,
      rows_bytes writer (first + 1) count,
      sum_by-cons bytes_of_row (row_of writer first) (map (row_of writer) (range_with_len (first + 1) count)),
    )

pub batch_taken : (writer batch : ℕ) (stream : StreamRef) (offset : Option ℤ) (rows : List Row) (bytes : ℕ) → writer < 4 → batch < 10000 → rows ≡ batch_of writer batch
    → bytes ≡ 11 * batch_length writer batch → Takes columns (command.Append stream offset rows bytes)
batch_taken writer batch stream offset rows bytes writers few are count =
    let first : ℕ = rows_before writer batch in
    let most = rows_few writer batch in
    let here = batch_few writer batch in
    let fit = rows_fit writer first (batch_length writer batch) writers (omega (arith, most, here)) in
    let weigh = rows_bytes writer first (batch_length writer batch) in
    record {
      fits = (subst (All (Fits columns)) (sym are) fit, subst (λ (rs : List Row). sum_by bytes_of_row rs ≤ bytes) (sym are) (omega (arith, weigh, count)));
      places = tt;
    }
