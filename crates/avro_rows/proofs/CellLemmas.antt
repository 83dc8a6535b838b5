-- Values and cells: what can be read where a number, a length or a branch stands.
use Rattle.std.proofs.Common.{◌≡◌, ℕ, ◌*◌, ◌<◌, ◌⊎◌, inl, inr, ℤ, pos, Bool, true, false, List, [], ◌∷◌, ◌++◌, length, to_z, of_z, refl, sym, ◌∙◌, ap, append_assoc, arith, length-append}
use Rattle.std.specs.Prelude.{IsTrue, IsUtf8, FitsSigned, ◌&&◌, Option, Some, None, Result, Ok, Err, IfOk}
use Rattle.std.specs.Borrow.{Bor}
use Rattle.std.specs.Int.{w64}
use Rattle.std.specs.Int.Signed.{le_z}
use Rattle.std.proofs.lemmas.Bool.{both_ways, and_parts}
use Rattle.std.proofs.lemmas.Int.{fits_signed_from_abs, to_z-of_z}
use Rattle.std.proofs.lemmas.Str.{IsUtf8-from_is_utf8}
use Rattle.outside.specs.declared.wants.Memory.{Memory}
use Rattle.column_types.specs.declared.column.Kind.{Kind}
use Rattle.column_types.specs.declared.column.Kind.TheVariants as kind
use Rattle.column_types.specs.declared.column.Mode.{Mode}
use Rattle.column_types.specs.declared.column.Mode.TheVariants as mode
use Rattle.column_types.specs.declared.column.Column.{Column}
use Rattle.column_types.specs.declared.cell.Cell.{Cell}
use Rattle.column_types.specs.declared.cell.Cell.TheVariants as cell
use Rattle.column_types.specs.declared.ranges.TheConstants.{FIRST_DAY, LAST_DAY, FIRST_INSTANT, LAST_INSTANT}
use Rattle.column_types.specs.Row.{is_between, is_of_kind, is_nullable, fits_column}
use Rattle.avro_rows.specs.Long.{long_of, IsLong}
use Rattle.avro_rows.specs.Datum.{counted, value_datum, cell_datum, is_null_or}
use Rattle.avro_rows.specs.Reads.{Reads}
use Rattle.avro_rows.proofs.LongLemmas.{long-unique, varint-some}

-- the length that was read is the block's, and the block stands behind it
pub counted-is : (bytes rest block more : List ℕ) (len : ℤ) → bytes ≡ long_of len ++ rest → bytes ≡ counted block ++ more → (len ≡ pos (length block)) × (rest ≡ block ++ more)
counted-is bytes rest block more len read is =
    long-unique len (pos (length block)) rest (block ++ more) (sym read ∙ is ∙ append_assoc (long_of (pos (length block))) block more)

-- a length that stands in memory is a number of 64 bits
pub counted-none : (bytes : List ℕ) → length bytes * 1 < 9223372036854775808 → ((len : ℤ) (rest : List ℕ) → IsLong len → bytes ≡ long_of len ++ rest → ⊥) →
    (block more : List ℕ) → bytes ≡ counted block ++ more → ⊥
counted-none bytes small none block more is =
    let place : length bytes ≡ length (counted block ++ more) = ap length is in
    let within : length block < 9223372036854775808 =
    omega (arith, length-append (counted block) more, length-append (long_of (pos (length block))) block)
    in
    none (pos (length block)) (block ++ more) (fits_signed_from_abs w64 (pos (length block)) within)
    (is ∙ append_assoc (long_of (pos (length block))) block more)

append-same : (a b x y : List ℕ) → length a ≡ length b → a ++ x ≡ b ++ y → (a ≡ b) × (x ≡ y)
append-same [] [] x y same is = (refl, is)
append-same [] (b ∷ others) x y same is = absurd (omega arith)
append-same (a ∷ more) [] x y same is = absurd (omega arith)
append-same (a ∷ more) (b ∷ others) x y same is =
    let tails : more ++ x ≡ others ++ y = cc in
    let behind = append-same more others x y (omega arith) tails in
    let tail : more ≡ others = behind.0 in
    (cc, behind.1)

pos-same : (a b : ℕ) → pos a ≡ pos b → a ≡ b
pos-same a b e = cc

pub counted-unique : (a b x y : List ℕ) → counted a ++ x ≡ counted b ++ y → (a ≡ b) × (x ≡ y)
counted-unique a b x y is =
    let read = counted-is (counted a ++ x) (a ++ x) b y (pos (length a)) (append_assoc (long_of (pos (length a))) a x) is in
    append-same a b x y (pos-same _ _ read.0) read.1

-- A test of a number against a bound, as the code leaves it, and the test of the range.

pub low-fails : (read low value : ℤ) (b : Bool) → read ≡ low → FitsSigned w64 low → FitsSigned w64 value →
    le_z (to_z w64 (of_z w64 read)) (to_z w64 (of_z w64 value)) ≡ false → (le_z low value && b) ≡ true → ⊥
low-fails read low value b is low_fits value_fits failed good =
    let of_low : le_z (to_z w64 (of_z w64 low)) (to_z w64 (of_z w64 value)) ≡ false = rw is at failed in
    let plain : le_z low value ≡ false = rw (to_z-of_z w64 low low_fits, to_z-of_z w64 value value_fits) at of_low in
    both_ways (le_z low value) plain (and_parts (le_z low value) b good).0

pub high-fails : (read high value : ℤ) (b : Bool) → read ≡ high → FitsSigned w64 high → FitsSigned w64 value →
    le_z (to_z w64 (of_z w64 value)) (to_z w64 (of_z w64 read)) ≡ false → (b && le_z value high) ≡ true → ⊥
high-fails read high value b is high_fits value_fits failed good =
    let of_high : le_z (to_z w64 (of_z w64 value)) (to_z w64 (of_z w64 high)) ≡ false = rw is at failed in
    let plain : le_z value high ≡ false = rw (to_z-of_z w64 high high_fits, to_z-of_z w64 value value_fits) at of_high in
    both_ways (le_z value high) plain (and_parts b (le_z value high) good).1

-- behind a number outside the days, no day is spelled there
pub day-none : (bytes rest : List ℕ) (day : ℤ) → bytes ≡ long_of day ++ rest → (is_between FIRST_DAY LAST_DAY day ≡ true → ⊥) →
    (value : Cell) (more : List ℕ) → is_of_kind kind.Date value ≡ true → bytes ≡ value_datum value ++ more → ⊥
day-none bytes rest day read outside (cell.Date other) more good is =
    let same = long-unique day other rest more (sym read ∙ is) in
    outside (rw same.0 good)
day-none bytes rest day read outside _ more good is = absurd (cc)

pub instant-none : (bytes rest : List ℕ) (instant : ℤ) → bytes ≡ long_of instant ++ rest → (is_between FIRST_INSTANT LAST_INSTANT instant ≡ true → ⊥) →
    (value : Cell) (more : List ℕ) → is_of_kind kind.Timestamp value ≡ true → bytes ≡ value_datum value ++ more → ⊥
instant-none bytes rest instant read outside (cell.Timestamp other) more good is =
    let same = long-unique instant other rest more (sym read ∙ is) in
    outside (rw same.0 good)
instant-none bytes rest instant read outside _ more good is = absurd (cc)

-- where a block that is no text was read, no text is spelled
pub text-none : (bytes rest block : List ℕ) → bytes ≡ counted block ++ rest → (IsUtf8 block → ⊥) →
    (value : Cell) (more : List ℕ) → is_of_kind kind.Str value ≡ true → bytes ≡ value_datum value ++ more → ⊥
text-none bytes rest block read no_text (cell.Str other) more good is =
    let same = counted-unique block other rest more (sym read ∙ is) in
    no_text (IsUtf8-from_is_utf8 block (rw same.0 good))
text-none bytes rest block read no_text _ more good is = absurd (cc)

null-no-kind : (k : Kind) → is_of_kind k cell.Null ≡ true → ⊥
null-no-kind kind.Int64 good = cc
null-no-kind kind.Bool good = cc
null-no-kind kind.Str good = cc
null-no-kind kind.Bytes good = cc
null-no-kind kind.Date good = cc
null-no-kind kind.Timestamp good = cc

-- a value behind the branch of values

behind_branch : (k : Kind) (value : Cell) (rest bytes : List ℕ) → is_of_kind k value ≡ true → rest ≡ value_datum value ++ bytes →
    (is_null_or k value ≡ true) × (2 ∷ rest ≡ cell_datum mode.Nullable value ++ bytes)
behind_branch k cell.Null rest bytes good is = absurd (null-no-kind k good)
behind_branch k (cell.Int value) rest bytes good is = (good, ap (λ s. 2 ∷ s) is)
behind_branch k (cell.Bool value) rest bytes good is = (good, ap (λ s. 2 ∷ s) is)
behind_branch k (cell.Str value) rest bytes good is = (good, ap (λ s. 2 ∷ s) is)
behind_branch k (cell.Bytes value) rest bytes good is = (good, ap (λ s. 2 ∷ s) is)
behind_branch k (cell.Date value) rest bytes good is = (good, ap (λ s. 2 ∷ s) is)
behind_branch k (cell.Timestamp value) rest bytes good is = (good, ap (λ s. 2 ∷ s) is)

branch_tail : (k : Kind) (rest more : List ℕ) → 2 ∷ rest ≡ 2 ∷ more → rest ≡ more
branch_tail k rest more e = cc

differ : (a b : ℕ) (x y : List ℕ) → a ∷ x ≡ b ∷ y → b < a → ⊥
differ a b x y e h = let head : a ≡ b = cc in omega arith

none_behind : (k : Kind) (value : Cell) (rest more : List ℕ) → ((other : Cell) (bytes : List ℕ) → is_of_kind k other ≡ true → rest ≡ value_datum other ++ bytes → ⊥) →
    is_null_or k value ≡ true → 2 ∷ rest ≡ cell_datum mode.Nullable value ++ more → ⊥
none_behind k cell.Null rest more none good is = absurd (differ _ _ _ _ is (omega arith))
none_behind k (cell.Int value) rest more none good is = none (cell.Int value) more good (branch_tail k _ _ is)
none_behind k (cell.Bool value) rest more none good is = none (cell.Bool value) more good (branch_tail k _ _ is)
none_behind k (cell.Str value) rest more none good is = none (cell.Str value) more good (branch_tail k _ _ is)
none_behind k (cell.Bytes value) rest more none good is = none (cell.Bytes value) more good (branch_tail k _ _ is)
none_behind k (cell.Date value) rest more none good is = none (cell.Date value) more good (branch_tail k _ _ is)
none_behind k (cell.Timestamp value) rest more none good is = none (cell.Timestamp value) more good (branch_tail k _ _ is)

-- the value behind the branch of values is read as a value of the union
pub reads-behind : (k : Kind) (bytes rest : List ℕ) (branch : ℕ) → bytes ≡ branch ∷ rest → branch ≡ 2 → (r : Result (Option (Cell × Bor (List ℕ))) Memory) →
    IfOk r (Reads (λ value. IsTrue (is_of_kind k value)) value_datum rest) → IfOk r (Reads (λ value. IsTrue (is_null_or k value)) (cell_datum mode.Nullable) bytes)
reads-behind k bytes rest branch e two (Err fault) read = tt
reads-behind k bytes rest branch e two (Ok None) read =
    λ value more good is. none_behind k value rest more read good (sym (e ∙ ap (λ b. b ∷ rest) two) ∙ is)
reads-behind k bytes rest branch e two (Ok (Some found)) read =
    let here = behind_branch k found.0 rest found.1.now read.0 read.1 in
    (here.0, e ∙ ap (λ b. b ∷ rest) two ∙ here.1)

-- What a value of a kind is.

int-of : (value : Cell) → is_of_kind kind.Int64 value ≡ true → (n : ℤ) × (value ≡ cell.Int n)
int-of (cell.Int n) good = (n, refl)
int-of _ good = absurd (cc)

bool-of : (value : Cell) → is_of_kind kind.Bool value ≡ true → (b : Bool) × (value ≡ cell.Bool b)
bool-of (cell.Bool b) good = (b, refl)
bool-of _ good = absurd (cc)

text-of : (value : Cell) → is_of_kind kind.Str value ≡ true → (text : List ℕ) × (value ≡ cell.Str text)
text-of (cell.Str text) good = (text, refl)
text-of _ good = absurd (cc)

bytes-of : (value : Cell) → is_of_kind kind.Bytes value ≡ true → (bytes : List ℕ) × (value ≡ cell.Bytes bytes)
bytes-of (cell.Bytes bytes) good = (bytes, refl)
bytes-of _ good = absurd (cc)

day-of : (value : Cell) → is_of_kind kind.Date value ≡ true → (n : ℤ) × (value ≡ cell.Date n)
day-of (cell.Date n) good = (n, refl)
day-of _ good = absurd (cc)

instant-of : (value : Cell) → is_of_kind kind.Timestamp value ≡ true → (n : ℤ) × (value ≡ cell.Timestamp n)
instant-of (cell.Timestamp n) good = (n, refl)
instant-of _ good = absurd (cc)

-- No value of a kind begins another.

bool-same : (a b : Bool) (r s : List ℕ) → value_datum (cell.Bool a) ++ r ≡ value_datum (cell.Bool b) ++ s → (cell.Bool a ≡ cell.Bool b) × (r ≡ s)
bool-same true true r s is = (refl, cc)
bool-same false false r s is = (refl, cc)
bool-same true false r s is = absurd (differ _ _ _ _ is (omega arith))
bool-same false true r s is = absurd (differ _ _ _ _ (sym is) (omega arith))

value-unique : (k : Kind) (x y : Cell) (r s : List ℕ) → is_of_kind k x ≡ true → is_of_kind k y ≡ true → value_datum x ++ r ≡ value_datum y ++ s → (x ≡ y) × (r ≡ s)
value-unique kind.Int64 x y r s good fine is =
    let a = int-of x good in
    let b = int-of y fine in
    let same = long-unique a.0 b.0 r s (rw (a.1, b.1) at is) in
    (a.1 ∙ ap cell.Int same.0 ∙ sym b.1, same.1)
value-unique kind.Bool x y r s good fine is =
    let a = bool-of x good in
    let b = bool-of y fine in
    let same = bool-same a.0 b.0 r s (rw (a.1, b.1) at is) in
    (a.1 ∙ same.0 ∙ sym b.1, same.1)
value-unique kind.Str x y r s good fine is =
    let a = text-of x good in
    let b = text-of y fine in
    let same = counted-unique a.0 b.0 r s (rw (a.1, b.1) at is) in
    (a.1 ∙ ap cell.Str same.0 ∙ sym b.1, same.1)
value-unique kind.Bytes x y r s good fine is =
    let a = bytes-of x good in
    let b = bytes-of y fine in
    let same = counted-unique a.0 b.0 r s (rw (a.1, b.1) at is) in
    (a.1 ∙ ap cell.Bytes same.0 ∙ sym b.1, same.1)
value-unique kind.Date x y r s good fine is =
    let a = day-of x good in
    let b = day-of y fine in
    let same = long-unique a.0 b.0 r s (rw (a.1, b.1) at is) in
    (a.1 ∙ ap cell.Date same.0 ∙ sym b.1, same.1)
value-unique kind.Timestamp x y r s good fine is =
    let a = instant-of x good in
    let b = instant-of y fine in
    let same = long-unique a.0 b.0 r s (rw (a.1, b.1) at is) in
    (a.1 ∙ ap cell.Timestamp same.0 ∙ sym b.1, same.1)

bool-some : (b : Bool) (rest : List ℕ) → value_datum (cell.Bool b) ++ rest ≡ [] → ⊥
bool-some true rest is = cc
bool-some false rest is = cc

-- a value of a kind takes a byte
value-some : (k : Kind) (x : Cell) (rest : List ℕ) → is_of_kind k x ≡ true → value_datum x ++ rest ≡ [] → ⊥
value-some k cell.Null rest good is = null-no-kind k good
value-some k (cell.Int n) rest good is = varint-some _ rest (sym is)
value-some k (cell.Bool b) rest good is = bool-some b rest is
value-some k (cell.Str text) rest good is = varint-some _ (text ++ rest) (sym is ∙ append_assoc (long_of (pos (length text))) text rest)
value-some k (cell.Bytes bytes) rest good is = varint-some _ (bytes ++ rest) (sym is ∙ append_assoc (long_of (pos (length bytes))) bytes rest)
value-some k (cell.Date n) rest good is = varint-some _ rest (sym is)
value-some k (cell.Timestamp n) rest good is = varint-some _ rest (sym is)

-- The same of cells.

null-or-null : (k : Kind) (x : Cell) → is_null_or k x ≡ true → (x ≡ cell.Null) ⊎ ((is_of_kind k x ≡ true) × (cell_datum mode.Nullable x ≡ 2 ∷ value_datum x))
null-or-null k cell.Null good = inl refl
null-or-null k (cell.Int n) good = inr (good, refl)
null-or-null k (cell.Bool b) good = inr (good, refl)
null-or-null k (cell.Str text) good = inr (good, refl)
null-or-null k (cell.Bytes bytes) good = inr (good, refl)
null-or-null k (cell.Date n) good = inr (good, refl)
null-or-null k (cell.Timestamp n) good = inr (good, refl)

tails_of : (a b : ℕ) (x y : List ℕ) → a ∷ x ≡ b ∷ y → x ≡ y
tails_of a b x y e = cc

nullable-unique : (k : Kind) (x y : Cell) (r s : List ℕ) →
    (x ≡ cell.Null) ⊎ ((is_of_kind k x ≡ true) × (cell_datum mode.Nullable x ≡ 2 ∷ value_datum x)) →
    (y ≡ cell.Null) ⊎ ((is_of_kind k y ≡ true) × (cell_datum mode.Nullable y ≡ 2 ∷ value_datum y)) →
    cell_datum mode.Nullable x ++ r ≡ cell_datum mode.Nullable y ++ s → (x ≡ y) × (r ≡ s)
nullable-unique k x y r s (inl a) (inl b) is =
    let same : 0 ∷ r ≡ 0 ∷ s = rw (a, b) at is in (a ∙ sym b, tails_of _ _ _ _ same)
nullable-unique k x y r s (inl a) (inr b) is =
    let same : 0 ∷ r ≡ 2 ∷ (value_datum y ++ s) = rw (a, b.1) at is in absurd (differ _ _ _ _ (sym same) (omega arith))
nullable-unique k x y r s (inr a) (inl b) is =
    let same : 2 ∷ (value_datum x ++ r) ≡ 0 ∷ s = rw (b, a.1) at is in absurd (differ _ _ _ _ same (omega arith))
nullable-unique k x y r s (inr a) (inr b) is =
    let same : 2 ∷ (value_datum x ++ r) ≡ 2 ∷ (value_datum y ++ s) = rw (a.1, b.1) at is in
    value-unique k x y r s a.0 b.0 (tails_of _ _ _ _ same)

required-of : (column : Column) (x : Cell) → column.mode ≡ mode.Required → fits_column column x ≡ true → is_of_kind column.kind x ≡ true
required-of column cell.Null e fits = let never : is_nullable mode.Required ≡ true = rw e at fits in cc
required-of column (cell.Int n) e fits = fits
required-of column (cell.Bool b) e fits = fits
required-of column (cell.Str text) e fits = fits
required-of column (cell.Bytes bytes) e fits = fits
required-of column (cell.Date n) e fits = fits
required-of column (cell.Timestamp n) e fits = fits

nullable-of : (column : Column) (x : Cell) → fits_column column x ≡ true → is_null_or column.kind x ≡ true
nullable-of column cell.Null fits = refl
nullable-of column (cell.Int n) fits = fits
nullable-of column (cell.Bool b) fits = fits
nullable-of column (cell.Str text) fits = fits
nullable-of column (cell.Bytes bytes) fits = fits
nullable-of column (cell.Date n) fits = fits
nullable-of column (cell.Timestamp n) fits = fits

by_mode : (column : Column) (x y : Cell) (r s : List ℕ) (m : Mode) → column.mode ≡ m → fits_column column x ≡ true → fits_column column y ≡ true →
    cell_datum m x ++ r ≡ cell_datum m y ++ s → (x ≡ y) × (r ≡ s)
by_mode column x y r s mode.Required e fits fine is = value-unique column.kind x y r s (required-of column x e fits) (required-of column y e fine) is
by_mode column x y r s mode.Nullable e fits fine is =
    nullable-unique column.kind x y r s (null-or-null column.kind x (nullable-of column x fits)) (null-or-null column.kind y (nullable-of column y fine)) is

-- no cell of a column begins another
pub cell-unique : (column : Column) (x y : Cell) (r s : List ℕ) → fits_column column x ≡ true → fits_column column y ≡ true →
    cell_datum column.mode x ++ r ≡ cell_datum column.mode y ++ s → (x ≡ y) × (r ≡ s)
cell-unique column x y r s fits fine is = by_mode column x y r s column.mode refl fits fine is

some_by_mode : (column : Column) (x : Cell) (rest : List ℕ) (m : Mode) → column.mode ≡ m → fits_column column x ≡ true → cell_datum m x ++ rest ≡ [] → ⊥
some_by_mode column x rest mode.Required e fits is = value-some column.kind x rest (required-of column x e fits) is
some_by_mode column cell.Null rest mode.Nullable e fits is = cc
some_by_mode column (cell.Int n) rest mode.Nullable e fits is = cc
some_by_mode column (cell.Bool b) rest mode.Nullable e fits is = cc
some_by_mode column (cell.Str text) rest mode.Nullable e fits is = cc
some_by_mode column (cell.Bytes bytes) rest mode.Nullable e fits is = cc
some_by_mode column (cell.Date n) rest mode.Nullable e fits is = cc
some_by_mode column (cell.Timestamp n) rest mode.Nullable e fits is = cc

-- a cell takes a byte
pub cell-some : (column : Column) (x : Cell) (rest : List ℕ) → fits_column column x ≡ true → cell_datum column.mode x ++ rest ≡ [] → ⊥
cell-some column x rest fits is = some_by_mode column x rest column.mode refl fits is
