-- The tables of a command line are some that a server can have.
use Rattle.std.proofs.Common.{◌≡◌, ℕ, zero, suc, ◌<◌, ◌≤◌, Bool, true, false, not, ◌&&◌, ◌||◌, List, [], ◌∷◌, map, length, IsTrue, Some, None, refl, sym, ap, subst, arith}
use Rattle.std.proofs.lemmas.Bool.Decides.{nat_tests}
use Rattle.std.specs.Prelude.{nat_le, if◌then◌else◌}
use Rattle.std.specs.Str.Parse.{digits_value}
use Rattle.std.specs.List.{IsDistinct, AllByRecursion}
use Rattle.std.specs.Str.{bytes_eq}
use Rattle.std.proofs.lemmas.Slice.Eq.{bytes_eq-Decides}
use Rattle.table_spec.specs.declared.spec.TableSpec.{TableSpec}
use Rattle.command_line.specs.declared.line.CommandLine.{CommandLine}
use Rattle.command_line.specs.declared.line.CommandLine.TheVariants as line
use Rattle.command_line.specs.Line.{IsLine}
use Rattle.command_line.specs.Numbers.{number_of, is_decimal}
use Rattle.command_line.specs.Tables.{AreSpecs, AreTables, has_name, are_distinct}
use Rattle.open_tables.specs.Tables.{AreTables as AreOpen}
use Rattle.program.specs.Runs.{HasTables}

same_count : (texts : List (List ℕ)) (tables : List TableSpec) → AreSpecs texts tables → length tables ≡ length texts
same_count [] [] are = refl
same_count [] (table ∷ tables) are = absurd are
same_count (text ∷ texts) [] are = absurd are
same_count (text ∷ texts) (table ∷ tables) are = ap suc (same_count texts tables are.1)

not_true : (a : Bool) → IsTrue (not a) → a ≡ false
not_true false is = refl
not_true true is = absurd cc

both_true : (a b : Bool) → IsTrue (a && b) → IsTrue a × IsTrue b
both_true true b is = (refl, is)
both_true false b is = absurd cc

either_false : (a b : Bool) → (a || b) ≡ false → (a ≡ false) × (b ≡ false)
either_false false b is = (refl, is)
either_false true b is = absurd cc

other_name : (a b : List ℕ) → bytes_eq b a ≡ false → bytes_eq a b ≡ false
other_name a b none = by (bytes_eq a b) refl
  where
    by : (same : Bool) → bytes_eq a b ≡ same → same ≡ false
    by false is = refl
    by true is = let true_too = (bytes_eq-Decides b a).1 (sym ((bytes_eq-Decides a b).0 is)) in absurd cc

others : (table : TableSpec) (tables : List TableSpec) → has_name tables table.name ≡ false → AllByRecursion (λ name. bytes_eq table.name name ≡ false) (map (λ spec. spec.name) tables)
others table [] none = tt
others table (next ∷ tables) none =
    let halves = either_false (bytes_eq next.name table.name) (has_name tables table.name) none in
    (other_name table.name next.name halves.0, others table tables halves.1)

distinct : (tables : List TableSpec) → IsTrue (are_distinct tables) → IsDistinct bytes_eq (map (λ spec. spec.name) tables)
unfolding IsDistinct
distinct [] is = tt
distinct (table ∷ tables) is =
    let halves = both_true (not (has_name tables table.name)) (are_distinct tables) is in
    (others table tables (not_true (has_name tables table.name) halves.0), distinct tables halves.1)

are_open : (texts : List (List ℕ)) (tables : List TableSpec) → AreTables texts tables → AreOpen tables
are_open texts tables are = record {
  some = let same = same_count texts tables are.specs in omega (arith, same, are.some);
  few = let same = same_count texts tables are.specs in omega (arith, same, are.most);
  distinct = distinct tables are.distinct;
}

-- a number from 1
some_one : (v : ℕ) → true ≡ nat_le 1 v → 0 < v
some_one zero is = absurd cc
some_one (suc v) is = omega arith

by_tests : (decimal least most : Bool) (v n : ℕ) → least ≡ nat_le 1 v → (if decimal && (least && most) then Some v else None) ≡ Some n → 0 < n
by_tests true true true v n tested is = let same : v ≡ n = cc in subst (λ m. 0 < m) same (some_one v tested)
by_tests true true false v n tested is = absurd cc
by_tests true false most v n tested is = absurd cc
by_tests false least most v n tested is = absurd cc

from_one : (most : ℕ) (text : List ℕ) (n : ℕ) → number_of 1 most text ≡ Some n → 0 < n
from_one most text n is = by_tests (is_decimal text) (nat_le 1 (digits_value 10 text)) (nat_le (digits_value 10 text) most) (digits_value 10 text) n refl is

up_to : (v most : ℕ) → true ≡ nat_le v most → v ≤ most
up_to v most is = grind (arith, nat_tests)

by_limit : (decimal least most : Bool) (v limit n : ℕ) → most ≡ nat_le v limit → (if decimal && (least && most) then Some v else None) ≡ Some n → n ≤ limit
by_limit true true true v limit n tested is = let same : v ≡ n = cc in subst (λ m. m ≤ limit) same (up_to v limit tested)
by_limit true true false v limit n tested is = absurd cc
by_limit true false most v limit n tested is = absurd cc
by_limit false least most v limit n tested is = absurd cc

at_most : (most : ℕ) (text : List ℕ) (n : ℕ) → number_of 1 most text ≡ Some n → n ≤ most
at_most most text n is = by_limit (is_decimal text) (nat_le 1 (digits_value 10 text)) (nat_le (digits_value 10 text) most) (digits_value 10 text) most n refl is

pub has_tables : (words : List (List ℕ)) (l : CommandLine) → IsLine words l → HasTables l
has_tables words (line.Body table) is = tt
has_tables words (line.Pipe tables) is = are_open _ tables is.2.2.1
has_tables words (line.Serve listen workers connections tables) is = let number = is.2.2.1.1 in (from_one 32 number.0 workers number.2, are_open _ tables is.2.2.1.3)
has_tables words (line.Drill n) is = let number = is.2.2.1 in (from_one 10000 number.0 n number.2, at_most 10000 number.0 n number.2)
