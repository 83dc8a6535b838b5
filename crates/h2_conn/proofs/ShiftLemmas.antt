-- Changes of the initial size: the pairs, and the windows.
use Rattle.std.proofs.Common.{◌≡◌, ℕ, ◌+◌, ◌-◌, ◌^◌, ◌<◌, ◌==◌, nat_lt, Bool, true, false, ◌&&◌, ◌||◌, ◌⊎◌, inl, inr, List, [], ◌∷◌, map, length, drop, get_or, Option, None, Some, Result, Ok, Err, is_some, ℤ, pos, ◌+ℤ◌, ◌-ℤ◌, refl, sym, ap, subst, ◌∙◌, arith, true≢false, add-one, drop-cons, if◌then◌else◌}
use Rattle.std.specs.List.{list_any, AllByRecursion}
use Rattle.std.proofs.lemmas.Int.{ints}
use Rattle.std.proofs.lemmas.Bool.Decides.{nat_tests}
use Rattle.h2_frames.specs.declared.pairs.Pair.{Pair}
use Rattle.h2_streams.specs.declared.stream.Stream.{Stream}
use Rattle.h2_streams.specs.Book.{Book}
use Rattle.h2_flow.specs.declared.window.Overflow.{Overflow}
use Rattle.h2_streams.specs.Shifts.{Shifts, first_above, shifted_by, shifted, AllStayAboveLeast}
use Rattle.h2_record.specs.Windows.{initial_window_size, initial_after}
use Rattle.h2_record.specs.Rules.{pair_code, pairs_code, code_if}
use Rattle.h2_conn.specs.Shift.{is_too_large}
use Rattle.h2_conn.specs.Within.{IsNearInitial}
use Rattle.h2_record.proofs.BoolLemmas.{or-first, or-second, by-test}
use Rattle.h2_record.proofs.OptionLemmas.{first-of, second-of}

-- the initial size with the i-th pair
pub initial_after-drop : (pairs : List Pair) (i last : ℕ) (d : Pair) → i < length pairs
    → initial_after last (drop i pairs) ≡ initial_after (if (get_or pairs i d).id == 4 then (get_or pairs i d).value else last) (drop (i + 1) pairs)
initial_after-drop pairs i last d below = rw (add-one, drop-cons pairs i d)

-- the pairs leave the initial size, or one that makes no window pass the greatest
last-by : (book : Book) (initial : ℕ) (pair : Pair) (b : Bool) → (pair.id == initial_window_size) ≡ b → is_too_large book initial pair ≡ false
    → (b ≡ false) ⊎ (is_some (first_above book (pos pair.value -ℤ pos initial)) ≡ false)
last-by book initial pair true same fits = inr (sym (λ i. same i && is_some (first_above book (pos pair.value -ℤ pos initial))) ∙ fits)
last-by book initial pair false same fits = inl refl

pub last-fits : (book : Book) (initial now : ℕ) (pairs : List Pair) → list_any (is_too_large book initial) pairs ≡ false
    → (now ≡ initial) ⊎ (is_some (first_above book (pos now -ℤ pos initial)) ≡ false)
    → (initial_after now pairs ≡ initial) ⊎ (is_some (first_above book (pos (initial_after now pairs) -ℤ pos initial)) ≡ false)
last-fits book initial now [] fits before = before
last-fits book initial now (pair ∷ pairs) fits before =
    let rest = or-second (is_too_large book initial pair) (list_any (is_too_large book initial) pairs) fits in
    let here = or-first (is_too_large book initial pair) (list_any (is_too_large book initial) pairs) fits in
    last-fits book initial (if pair.id == initial_window_size then pair.value else now) pairs rest (by-test (pair.id == initial_window_size)
    (λ same. inr (subst (λ (n : ℕ). is_some (first_above book (pos n -ℤ pos initial)) ≡ false) (sym (λ i. if same i then pair.value else now))
    (sym (λ i. same i && is_some (first_above book (pos pair.value -ℤ pos initial))) ∙ here)))
    (λ apart. subst (λ (n : ℕ). (n ≡ initial) ⊎ (is_some (first_above book (pos n -ℤ pos initial)) ≡ false)) (sym (λ i. if apart i then pair.value else now)) before))

-- good pairs leave an initial size of 31 bits
good-pair : (pair : Pair) → pair_code pair ≡ None → (pair.id == initial_window_size) ≡ true → pair.value < 2 ^ 31
good-pair pair good same =
    let id : pair.id ≡ 4 = grind (arith, nat_tests, same) in
    let code : code_if (nat_lt (2 ^ 31 - 1) pair.value) 3 ≡ None = ap (λ n. if n == 2 then code_if (nat_lt 1 pair.value) 1 else if n == 4 then code_if (nat_lt (2 ^ 31 - 1) pair.value) 3 else if n == 5 then code_if (nat_lt pair.value 16384 || nat_lt 16777215 pair.value) 1 else None) (sym id) ∙ good in
    by-test (nat_lt (2 ^ 31 - 1) pair.value)
    (λ over. absurd (true≢false (ap is_some (sym (λ i. code_if (over i) 3) ∙ code))))
    (λ within. grind (arith, nat_tests, within))

pub last-small : (now : ℕ) (pairs : List Pair) → pairs_code pairs ≡ None → now < 2 ^ 31 → initial_after now pairs < 2 ^ 31
last-small now [] good small = small
last-small now (pair ∷ pairs) good small = last-small (if pair.id == initial_window_size then pair.value else now) pairs (second-of (pair_code pair) (pairs_code pairs) good)
    (by-test (pair.id == initial_window_size)
    (λ same. subst (λ (n : ℕ). n < 2 ^ 31) (sym (λ i. if same i then pair.value else now)) (good-pair pair (first-of (pair_code pair) (pairs_code pairs) good) same))
    (λ apart. subst (λ (n : ℕ). n < 2 ^ 31) (sym (λ i. if apart i then pair.value else now)) small))

-- no window falls below the least
pub stay-above : (initial last : ℕ) (live : List (ℕ × Stream)) → AllByRecursion (IsNearInitial initial) live → AllStayAboveLeast (pos last -ℤ pos initial) live
stay-above initial last [] near = tt
stay-above initial last (e ∷ live) near = ((let h = near.0 in omega (arith, ints, h)), stay-above initial last live near.1)

-- a shift by 0
pub shifted-nothing : (live : List (ℕ × Stream)) (n : ℕ) → map (shifted_by (pos n -ℤ pos n)) live ≡ live
shifted-nothing [] n = refl
shifted-nothing (e ∷ live) n = λ i. (e.0, record e.1 { send = same i }) ∷ shifted-nothing live n i
  where
    same : (e.1.send +ℤ (pos n -ℤ pos n)) ≡ e.1.send
    same = omega (arith, ints)

pub shifted-same : (book : Book) (last initial : ℕ) → last ≡ initial → book ≡ shifted book (pos last -ℤ pos initial)
shifted-same book last initial same = λ i. record book { live = sym (ap (λ n. map (shifted_by (pos n -ℤ pos initial)) book.live) same ∙ shifted-nothing book.live initial) i }

-- each entry's window stays near the initial size
pub near-shifted : (initial last : ℕ) (live : List (ℕ × Stream)) → AllByRecursion (IsNearInitial initial) live → AllByRecursion (IsNearInitial last) (map (shifted_by (pos last -ℤ pos initial)) live)
near-shifted initial last [] near = tt
near-shifted initial last (e ∷ live) near = ((let h = near.0 in omega (arith, ints, h)), near-shifted initial last live near.1)

-- what a shift answers, where none passes the greatest
pub shifts-ok : (book new : Book) (by change : ℤ) (result : Result (Unit {0}) Overflow) → by ≡ change → is_some (first_above book change) ≡ false
    → Shifts book by (first_above book by) result new → (result ≡ Ok tt) × (new ≡ shifted book change)
shifts-ok book new by change result same none shifts = first (first_above book by) result (ap (λ b. is_some (first_above book b)) same ∙ none) shifts
  where
    first : (o : Option Stream) (result : Result (Unit {0}) Overflow) → is_some o ≡ false → Shifts book by o result new → (result ≡ Ok tt) × (new ≡ shifted book change)
    first None (Ok u) none shifts = (refl, shifts ∙ ap (shifted book) same)
    first None (Err fault) none shifts = absurd shifts
    first (Some stream) result none shifts = absurd (true≢false none)
