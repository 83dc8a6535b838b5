-- The rows that wait, when those of one stream or of several change.
use Rattle.std.proofs.Common.{◌≡◌, ℕ, zero, suc, ◌+◌, ◌-◌, ◌≤◌, Bool, true, false, ◌||◌, List, [], ◌∷◌, ◌++◌, length, fold, get_or, set, refl, sym, ap, ◌∙◌, arith}
use Rattle.std.specs.Prelude.{nat_lt, ◌==◌, if◌then◌else◌}
use Rattle.std.specs.List.{flat_map, list_any}
use Rattle.std.proofs.lemmas.Bool.{eqb-true, eqb-false, ltb-true, lt-ltb}
use Rattle.std.proofs.lemmas.List.{length-append, length-set, get_or-set_same, get_or-set_other}
use Rattle.column_types.specs.declared.row.Row.{Row}
use Rattle.table_model.specs.declared.streams.StreamRef.{StreamRef}
use Rattle.table_model.specs.declared.streams.StreamRef.TheVariants as stream
use Rattle.table_model.specs.Streams.{is_one_stream}
use Rattle.table_model.specs.Checks.{names_twice}
use Rattle.table_model.proofs.SourceLemmas.{one_stream}
use Rattle.row_groups.specs.Places.{joined}
use Rattle.table_engine.specs.Waiting.{Waits, waiting_of, with_rows, with_none, CanWait}

numbered : (waits : Waits) (rows : List Row) (n m : ℕ) (first other : Bool) → nat_lt 0 n ≡ first → nat_lt 0 m ≡ other
    → (if first then get_or (if first then set waits (n - 1) rows else waits) (n - 1) [] else []) ≡ rows
    → (same : Bool) → (m == n) ≡ same
    → (if other then get_or (if first then set waits (n - 1) rows else waits) (m - 1) [] else []) ≡ (if same then rows else (if other then get_or waits (m - 1) [] else []))
numbered waits rows n m true true p q h true e = let is : m ≡ n = eqb-true m n e in rw is h
numbered waits rows n m true false p q h true e = let is : m ≡ n = eqb-true m n e in absurd (cc (p, q, is))
numbered waits rows n m false true p q h true e = let is : m ≡ n = eqb-true m n e in absurd (cc (p, q, is))
numbered waits rows n m false false p q h true e = h
numbered waits rows n m true true p q h false e =
    let low = ltb-true 0 n p in
    let high = ltb-true 0 m q in
    get_or-set_other waits (n - 1) (m - 1) rows [] (λ is. eqb-false m n e (omega (arith, low, high, is)))
numbered waits rows n m true false p q h false e = refl
numbered waits rows n m false true p q h false e = refl
numbered waits rows n m false false p q h false e = refl

-- other streams keep their rows
pub waiting_of-with : (waits : Waits) (on : StreamRef) (rows : List Row) → waiting_of (with_rows waits on rows) on ≡ rows
    → (s : StreamRef) → waiting_of (with_rows waits on rows) s ≡ (if is_one_stream s on then rows else waiting_of waits s)
waiting_of-with waits stream.Default rows h stream.Default = h
waiting_of-with waits stream.Default rows h (stream.Number m) = refl
waiting_of-with waits stream.Default rows h stream.Other = refl
waiting_of-with waits stream.Other rows h stream.Default = refl
waiting_of-with waits stream.Other rows h (stream.Number m) = refl
waiting_of-with waits stream.Other rows h stream.Other = refl
waiting_of-with waits (stream.Number n) rows h stream.Default = refl
waiting_of-with waits (stream.Number n) rows h (stream.Number m) = numbered waits rows n m (nat_lt 0 n) (nat_lt 0 m) refl refl h (m == n) refl
waiting_of-with waits (stream.Number n) rows h stream.Other = refl

-- a stream for which rows can wait has those that it is given
pub waits_there : (waits : Waits) (on : StreamRef) (rows : List Row) → CanWait waits on → waiting_of (with_rows waits on rows) on ≡ rows
waits_there waits stream.Default rows can = absurd can
waits_there waits stream.Other rows can = absurd can
waits_there waits (stream.Number n) rows can = either (nat_lt 0 n) (lt-ltb 0 n can.0)
  where
    either : (b : Bool) → b ≡ true → (if b then get_or (if b then set waits (n - 1) rows else waits) (n - 1) [] else []) ≡ rows
    either true e = get_or-set_same waits (n - 1) rows [] (omega (arith, can.0, can.1))
    either false e = absurd (cc)

none_there : (waits : Waits) (i : ℕ) → get_or (set waits i []) i [] ≡ []
none_there [] i = refl
none_there (rows ∷ more) zero = refl
none_there (rows ∷ more) (suc i) = none_there more i

pub waits_none : (waits : Waits) (on : StreamRef) → waiting_of (with_none waits on) on ≡ []
waits_none waits stream.Default = refl
waits_none waits stream.Other = refl
waits_none waits (stream.Number n) = either (nat_lt 0 n)
  where
    either : (b : Bool) → (if b then get_or (if b then set waits (n - 1) [] else waits) (n - 1) [] else []) ≡ []
    either true = none_there waits (n - 1)
    either false = refl

pub length-with : (waits : Waits) (on : StreamRef) (rows : List Row) → length (with_rows waits on rows) ≡ length waits
length-with waits stream.Default rows = refl
length-with waits stream.Other rows = refl
length-with waits (stream.Number n) rows = either (nat_lt 0 n)
  where
    either : (b : Bool) → length (if b then set waits (n - 1) rows else waits) ≡ length waits
    either true = length-set waits (n - 1) rows
    either false = refl

-- How many rows wait.
count-set : (waits : Waits) (i : ℕ) (rows : List Row) → length (joined (set waits i rows)) + length (get_or waits i []) ≤ length (joined waits) + length rows
count-set [] i rows = omega arith
count-set (first ∷ more) zero rows = omega (arith, length-append rows (joined more), length-append first (joined more))
count-set (first ∷ more) (suc i) rows =
    let rest = count-set more i rows in
    omega (arith, rest, length-append first (joined (set more i rows)), length-append first (joined more))

pub count-with : (waits : Waits) (on : StreamRef) (rows : List Row) → length (joined (with_rows waits on rows)) + length (waiting_of waits on) ≤ length (joined waits) + length rows
count-with waits stream.Default rows = omega arith
count-with waits stream.Other rows = omega arith
count-with waits (stream.Number n) rows = either (nat_lt 0 n)
  where
    either : (b : Bool) → length (joined (if b then set waits (n - 1) rows else waits)) + length (if b then get_or waits (n - 1) [] else []) ≤ length (joined waits) + length rows
    either true = count-set waits (n - 1) rows
    either false = omega arith

-- Streams that are cleared, one after another.
pub waiting_of-cleared : (waits : Waits) (streams : List StreamRef) (s : StreamRef)
    → waiting_of (fold with_none waits streams) s ≡ (if list_any (is_one_stream s) streams then [] else waiting_of waits s)
waiting_of-cleared waits [] s = refl
waiting_of-cleared waits (on ∷ more) s =
    waiting_of-cleared (with_none waits on) more s
    ∙ ap (λ rows. if list_any (is_one_stream s) more then [] else rows) (waiting_of-with waits on [] (waits_none waits on) s)
    ∙ either (is_one_stream s on) (list_any (is_one_stream s) more)
  where
    either : (here later : Bool) → (if later then [] else (if here then [] else waiting_of waits s)) ≡ (if here || later then [] else waiting_of waits s)
    either true true = refl
    either true false = refl
    either false true = refl
    either false false = refl

pub length-cleared : (waits : Waits) (streams : List StreamRef) → length (fold with_none waits streams) ≡ length waits
length-cleared waits [] = refl
length-cleared waits (on ∷ more) = length-cleared (with_none waits on) more ∙ length-with waits on []

or_parts : (a b : Bool) → (a || b) ≡ false → (a ≡ false) × (b ≡ false)
or_parts false false e = (refl, refl)
or_parts false true e = absurd (cc)
or_parts true b e = absurd (cc)

-- the rows of the others stay
others : (waits : Waits) (on : StreamRef) (streams : List StreamRef) → list_any (is_one_stream on) streams ≡ false → flat_map (waiting_of (with_none waits on)) streams ≡ flat_map (waiting_of waits) streams
others waits on [] none = refl
others waits on (s ∷ more) none =
    let parts = or_parts (is_one_stream on s) (list_any (is_one_stream on) more) none in
    ap (λ rows. rows ++ flat_map (waiting_of (with_none waits on)) more) (waiting_of-with waits on [] (waits_none waits on) s ∙ either (is_one_stream s on) refl parts.0)
    ∙ ap (λ rows. waiting_of waits s ++ rows) (others waits on more parts.1)
  where
    either : (b : Bool) → is_one_stream s on ≡ b → is_one_stream on s ≡ false → (if b then [] else waiting_of waits s) ≡ waiting_of waits s
    either false e none = refl
    either true e none =
        let same : s ≡ on = one_stream s on e in
        let here : is_one_stream on s ≡ true = ap (is_one_stream on) same ∙ ap (λ x. is_one_stream x on) (sym same) ∙ e in
        absurd (cc)

pub count-cleared : (waits : Waits) (streams : List StreamRef) → names_twice streams ≡ false
    → length (joined (fold with_none waits streams)) + length (flat_map (waiting_of waits) streams) ≤ length (joined waits)
count-cleared waits [] once = omega arith
count-cleared waits (on ∷ more) once =
    let parts = or_parts (list_any (is_one_stream on) more) (names_twice more) once in
    let first = count-with waits on [] in
    let rest = count-cleared (with_none waits on) more parts.1 in
    let same : length (flat_map (waiting_of (with_none waits on)) more) ≡ length (flat_map (waiting_of waits) more) = ap length (others waits on more parts.0) in
    omega (arith, first, rest, same, length-append (waiting_of waits on) (flat_map (waiting_of waits) more))
