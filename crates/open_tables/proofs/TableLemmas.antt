-- Tables and the passes to them.
use Rattle.std.proofs.Common.{◌≡◌, ℕ, zero, suc, ◌+◌, ◌<◌, Bool, List, [], ◌∷◌, ◌++◌, map, length, set, get_or, Option, Some, None, refl, sym, ap, ◌∙◌, subst, arith, cond, IfSome}
use Rattle.std.specs.Prelude.{slice_get, position, All, not}
use Rattle.std.specs.List.{insert, remove, prefix_len}
use Rattle.std.specs.Str.{bytes_eq}
use Rattle.std.proofs.lemmas.List.{length-map}
use mathlib.Core.List.{map-append}
use Rattle.column_types.specs.declared.column.Column.{Column}
use Rattle.table_spec.specs.declared.spec.TableSpec.{TableSpec}
use Rattle.table_model.specs.declared.commands.Command.{Command}
use Rattle.table_model.specs.Legal.{Takes}
use Rattle.turn_table.specs.View.{Home, IsOf, first_pass}
use Rattle.open_tables.specs.Tables.{TableView, OpenTable, AreTheirs, HasItsColumns, AreTables, AreOpen, TakesAt, specs_of, place_of, first_passes}

-- ---- one element put in the place of another

pub insert-remove : {X : Type 0} (xs : List X) (i : ℕ) (y : X) → i < length xs → insert (remove xs i) i y ≡ set xs i y
insert-remove [] i y inside = absurd (omega (arith, inside))
insert-remove (x ∷ xs) zero y inside = refl
insert-remove (x ∷ xs) (suc i) y inside = ap (λ rest. x ∷ rest) (insert-remove xs i y (omega (arith, inside)))

pub at_place : {X : Type 0} (xs : List X) (i : ℕ) (d : X) → i < length xs → slice_get xs i ≡ Some (get_or xs i d)
at_place [] i d inside = absurd (omega (arith, inside))
at_place (x ∷ xs) zero d inside = refl
at_place (x ∷ xs) (suc i) d inside = at_place xs i d (omega (arith, inside))

pub some_at : {X : Type 0} (xs : List X) (i : ℕ) → i < length xs → (x : X) × (slice_get xs i ≡ Some x)
some_at [] i inside = absurd (omega (arith, inside))
some_at (x ∷ xs) zero inside = (x, refl)
some_at (x ∷ xs) (suc i) inside = some_at xs i (omega (arith, inside))

-- ---- the passes are the tables'

pub length-theirs : (tables : List OpenTable) (passes : List TableView) → AreTheirs tables passes → length passes ≡ length tables
length-theirs [] [] theirs = refl
length-theirs [] (view ∷ passes) theirs = absurd theirs
length-theirs (table ∷ tables) [] theirs = absurd theirs
length-theirs (table ∷ tables) (view ∷ passes) theirs = ap suc (length-theirs tables passes theirs.1)

-- the table at this place has this turn
abbrev pub HasTurn : List OpenTable → ℕ → Home (List Column) → Type 0
HasTurn tables place turn = IfSome (slice_get tables place) (λ table. table.1 ≡ turn)

pub theirs_at : (tables : List OpenTable) (passes : List TableView) (place : ℕ) (turn : Home (List Column)) (view : TableView)
    → AreTheirs tables passes → place < length tables → HasTurn tables place turn → IsOf turn (get_or passes place view)
theirs_at [] passes place turn view theirs inside has = absurd (omega (arith, inside))
theirs_at (first ∷ tables) [] place turn view theirs inside has = absurd theirs
theirs_at (first ∷ tables) (pass ∷ passes) zero turn view theirs inside has =
    let P : Home (List Column) → Type 0 = λ turn. IsOf turn pass in subst P has theirs.0
theirs_at (first ∷ tables) (pass ∷ passes) (suc place) turn view theirs inside has = theirs_at tables passes place turn view theirs.1 (omega (arith, inside)) has

pub theirs-set : (tables : List OpenTable) (passes : List TableView) (place : ℕ) (turn : Home (List Column)) (view : TableView)
    → AreTheirs tables passes → HasTurn tables place turn → IsOf turn view → AreTheirs tables (set passes place view)
theirs-set [] [] place turn view theirs has is = tt
theirs-set [] (pass ∷ passes) place turn view theirs has is = absurd theirs
theirs-set (first ∷ tables) [] place turn view theirs has is = absurd theirs
theirs-set (first ∷ tables) (pass ∷ passes) zero turn view theirs has is =
    let P : Home (List Column) → Type 0 = λ turn. IsOf turn view in (subst P (sym has) is, theirs.1)
theirs-set (first ∷ tables) (pass ∷ passes) (suc place) turn view theirs has is = (theirs.0, theirs-set tables passes place turn view theirs.1 has is)

-- ---- the columns of the table at a place

-- the table at this place has these columns
abbrev pub HasColumns : List TableSpec → ℕ → List Column → Type 0
HasColumns specs place columns = IfSome (slice_get specs place) (λ spec. columns ≡ spec.schema)

pub takes_at : (specs : List TableSpec) (place : ℕ) (columns : List Column) (command : Command)
    → place < length specs → HasColumns specs place columns → TakesAt specs place command → Takes columns command
takes_at [] place columns command inside has takes = absurd (omega (arith, inside))
takes_at (spec ∷ specs) zero columns command inside has takes = let P : List Column → Type 0 = λ columns. Takes columns command in subst P (sym has) takes
takes_at (spec ∷ specs) (suc place) columns command inside has takes = takes_at specs place columns command (omega (arith, inside)) has takes

pub columns_at : (o : Option TableSpec) (columns : List Column) (spec : TableSpec) → IfSome o (λ spec. columns ≡ spec.schema) → o ≡ Some spec → columns ≡ spec.schema
columns_at None columns spec has e = absurd (cc)
columns_at (Some other) columns spec has e = let same : other ≡ spec = cc in has ∙ ap (λ spec. spec.schema) same

-- ---- a pass that was taken out acted, and was put back

-- the pass that was at the place, the passes with another there, and the columns
pub record IsActed (tables : List OpenTable) (passes after : List TableView) (place : ℕ) (old new : TableView) : Type 0 where
  pub found : slice_get passes place ≡ Some old
  pub behind : after ≡ set passes place new
  pub has : HasColumns (specs_of tables) place old.fixed
  pub is_of : AreTheirs tables after

pub acted : (tables : List OpenTable) (passes rest after : List TableView) (place : ℕ) (turn : Home (List Column)) (old new : TableView)
    → AreTheirs tables passes → place < length tables → HasTurn tables place turn → HasColumns (specs_of tables) place turn.fixed
    → old ≡ get_or passes place old → rest ≡ remove passes place → after ≡ insert rest place new → IsOf turn new
    → IsActed tables passes after place old new
acted tables passes rest after place turn old new theirs inside has columns taken without back is_of =
    let within : place < length passes = rw (length-theirs tables passes theirs) inside in
    let P : TableView → Type 0 = λ view. IsOf turn view in
    let before : IsOf turn old = subst P (sym taken) (theirs_at tables passes place turn old theirs inside has) in
    let Q : List Column → Type 0 = λ columns. HasColumns (specs_of tables) place columns in
    let behind : after ≡ set passes place new = back ∙ ap (λ xs. insert xs place new) without ∙ insert-remove passes place new within in
    record {
      found = at_place passes place old within ∙ ap (λ view. Some view) (sym taken);
      behind = behind;
      has = subst Q (sym before.same) columns;
      is_of = rw behind (theirs-set tables passes place turn new theirs has is_of);
    }

-- ---- new tables

pub theirs_first : (tables : List OpenTable) → AreTheirs tables (first_passes tables)
theirs_first [] = tt
theirs_first (table ∷ tables) = (record { table = refl; same = refl }, theirs_first tables)

columns_more : (tables : List OpenTable) (table : OpenTable) → All HasItsColumns tables → HasItsColumns table → All HasItsColumns (tables ++ table ∷ [])
columns_more [] table all has zero d inside = has
columns_more [] table all has (suc k) d inside = absurd (omega (arith, inside))
columns_more (first ∷ tables) table all has zero d inside = all zero d (omega arith)
columns_more (first ∷ tables) table all has (suc k) d inside = columns_more tables table (λ i other within. all (suc i) other (omega (arith, within))) has k d (omega (arith, inside))

-- new tables and the passes to them, and one more
pub opened : (tables : List OpenTable) (passes : List TableView) (specs : List TableSpec) (spec : TableSpec) (turn : Home (List Column)) (pass : TableView)
    → specs_of tables ≡ specs → passes ≡ first_passes tables → All HasItsColumns tables → turn.fixed ≡ spec.schema → pass ≡ first_pass turn
    → (specs_of (tables ++ (spec, turn) ∷ []) ≡ specs ++ spec ∷ []) × (passes ++ pass ∷ [] ≡ first_passes (tables ++ (spec, turn) ∷ [])) × All HasItsColumns (tables ++ (spec, turn) ∷ [])
opened tables passes specs spec turn pass are first columns has is = (
  map-append (λ (table : OpenTable). table.0) tables ((spec, turn) ∷ []) ∙ ap (λ l. l ++ spec ∷ []) are,
  (λ i. first i ++ is i ∷ []) ∙ sym (map-append (λ (table : OpenTable). let view : TableView = first_pass table.1 in view) tables ((spec, turn) ∷ [])),
  columns_more tables (spec, turn) columns has,
)

-- ---- the place of a name

by_test : (b : Bool) (m n : ℕ) → m ≡ n → cond b (1 + m) 0 ≡ cond b (1 + n) 0
by_test b m n e = ap (λ k. cond b (1 + k) 0) e

pub prefix_len-map : {X Y : Type 0} (f : X → Y) (p : Y → Bool) (xs : List X) → prefix_len p (map f xs) ≡ prefix_len (λ x. p (f x)) xs
prefix_len-map f p [] = refl
prefix_len-map f p (x ∷ xs) = by_test (p (f x)) (prefix_len p (map f xs)) (prefix_len (λ y. p (f y)) xs) (prefix_len-map f p xs)

pub place_of-specs_of : (tables : List OpenTable) (name : List ℕ) → place_of (specs_of tables) name ≡ position (λ table. bytes_eq table.0.name name) tables
place_of-specs_of tables name =
    let len = length-map tables (λ (table : OpenTable). table.0) in
    let front = prefix_len-map (λ (table : OpenTable). table.0) (λ spec. not (bytes_eq spec.name name)) tables in
    rw len (rw front refl)
