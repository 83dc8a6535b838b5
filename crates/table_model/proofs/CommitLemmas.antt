-- Names that a commit reads one after another.
use Rattle.std.proofs.Common.{◌≡◌, ℕ, ◌+◌, ◌<◌, Bool, true, false, ◌||◌, List, [], ◌∷◌, ◌++◌, length, get_or, take, drop, Option, refl, sym, ap, ◌∙◌, arith, add-zero}
use Rattle.std.specs.List.{list_any, filter_map, enumerate_from, cons_option}
use Rattle.std.proofs.lemmas.List.{take_more, take-append-drop, length-take-le}
use Rattle.std.proofs.lemmas.Bool.Decides.{nat_tests}
use Rattle.std.proofs.lemmas.List.Elements.{filter_map-append}
use Rattle.std.proofs.lemmas.List.Folds.{list_any-append, list_any_more}
use Rattle.table_model.specs.declared.streams.StreamRef.{StreamRef}
use Rattle.table_model.specs.declared.streams.StreamRef.TheVariants as stream
use Rattle.table_model.specs.declared.streams.StreamState.{StreamState}
use Rattle.table_model.specs.Streams.{is_one_stream}
use Rattle.table_model.specs.Checks.{names_twice, stream_errors, error_at, stream_code}

enumerate_from-push : {X : Type 0} (n : ℕ) (xs : List X) (y : X) → enumerate_from n (xs ++ y ∷ []) ≡ enumerate_from n xs ++ (n + length xs, y) ∷ []
enumerate_from-push n [] y = ap (λ m. (m, y) ∷ []) (sym (add-zero n))
enumerate_from-push n (x ∷ xs) y =
    let e : n + 1 + length xs ≡ n + length (x ∷ xs) = omega arith in
    ap (λ rest. (n, x) ∷ rest) (enumerate_from-push (n + 1) xs y ∙ ap (λ m. enumerate_from (n + 1) xs ++ (m, y) ∷ []) e)

stream_errors-push : (look : StreamRef → Option StreamState) (xs : List StreamRef) (y : StreamRef)
    → stream_errors look (xs ++ y ∷ []) ≡ stream_errors look xs ++ cons_option (error_at (length xs) (stream_code (look y))) []
stream_errors-push look xs y =
    ap (filter_map (λ item. error_at item.0 (stream_code (look item.1)))) (enumerate_from-push 0 xs y)
    ∙ filter_map-append (λ item. error_at item.0 (stream_code (look item.1))) (enumerate_from 0 xs) ((0 + length xs, y) ∷ [])
    ∙ ap (λ n. stream_errors look xs ++ cons_option (error_at n (stream_code (look y))) []) (omega arith)

-- the errors of one name more
pub stream_errors_more : (look : StreamRef → Option StreamState) (xs : List StreamRef) (i : ℕ) (d : StreamRef) → i < length xs
    → stream_errors look (take (i + 1) xs) ≡ stream_errors look (take i xs) ++ cons_option (error_at i (stream_code (look (get_or xs i d)))) []
stream_errors_more look xs i d within =
    ap (stream_errors look) (take_more xs i d within)
    ∙ stream_errors-push look (take i xs) (get_or xs i d)
    ∙ ap (λ n. stream_errors look (take i xs) ++ cons_option (error_at n (stream_code (look (get_or xs i d)))) []) (length-take-le i xs (omega arith))

is_one_stream-swap : (a b : StreamRef) → is_one_stream a b ≡ is_one_stream b a
is_one_stream-swap stream.Default stream.Default = refl
is_one_stream-swap stream.Default (stream.Number b) = refl
is_one_stream-swap stream.Default stream.Other = refl
is_one_stream-swap (stream.Number a) stream.Default = refl
is_one_stream-swap (stream.Number a) (stream.Number b) = grind (arith, nat_tests)
is_one_stream-swap (stream.Number a) stream.Other = refl
is_one_stream-swap stream.Other stream.Default = refl
is_one_stream-swap stream.Other (stream.Number b) = refl
is_one_stream-swap stream.Other stream.Other = refl

names_twice-push : (xs : List StreamRef) (y : StreamRef) → names_twice (xs ++ y ∷ []) ≡ (names_twice xs || list_any (is_one_stream y) xs)
names_twice-push [] y = refl
names_twice-push (x ∷ xs) y =
    let later = names_twice-push xs y in
    let here = list_any-append (is_one_stream x) xs (y ∷ []) in
    ap2_or (here ∙ ap (λ b. list_any (is_one_stream x) xs || b) (or_false (is_one_stream x y) ∙ is_one_stream-swap x y)) later
    ∙ regroup (list_any (is_one_stream x) xs) (is_one_stream y x) (names_twice xs) (list_any (is_one_stream y) xs)
  where
    ap2_or : {a b c d : Bool} → a ≡ b → c ≡ d → (a || c) ≡ (b || d)
    ap2_or p q = cc

    or_false : (b : Bool) → (b || false) ≡ b
    or_false true = refl
    or_false false = refl

    regroup : (a b c d : Bool) → ((a || b) || (c || d)) ≡ ((a || c) || (b || d))
    regroup true b c d = refl
    regroup false true true d = refl
    regroup false true false d = refl
    regroup false false c d = refl

-- whether a name more makes one twice
pub names_twice_more : (xs : List StreamRef) (i : ℕ) (d : StreamRef) → i < length xs
    → names_twice (take (i + 1) xs) ≡ (names_twice (take i xs) || list_any (is_one_stream (get_or xs i d)) (take i xs))
names_twice_more xs i d within = ap names_twice (take_more xs i d within) ∙ names_twice-push (take i xs) (get_or xs i d)

names_twice-front : (xs ys : List StreamRef) → names_twice xs ≡ true → names_twice (xs ++ ys) ≡ true
names_twice-front [] ys twice = absurd (cc)
names_twice-front (x ∷ xs) ys twice =
    rw (list_any-append (is_one_stream x) xs ys) (
    either (list_any (is_one_stream x) xs) (list_any (is_one_stream x) ys) (names_twice xs) (names_twice (xs ++ ys)) (names_twice-front xs ys) twice)
  where
    either : (a b c d : Bool) → (c ≡ true → d ≡ true) → (a || c) ≡ true → ((a || b) || d) ≡ true
    either true b c d later h = refl
    either false true c d later h = refl
    either false false c d later h = later h

-- what is named twice among the first is named twice
pub names_twice_kept : (xs : List StreamRef) (i : ℕ) → names_twice (take i xs) ≡ true → names_twice xs ≡ true
names_twice_kept xs i twice = rw (← take-append-drop i xs) (names_twice-front (take i xs) (drop i xs) twice)

-- what is named twice by the name here and one before it
pub names_twice_by : (xs : List StreamRef) (i : ℕ) (d x : StreamRef) → i < length xs → get_or xs i d ≡ x
    → list_any (is_one_stream x) (take i xs) ≡ true → true ≡ names_twice xs
names_twice_by xs i d x within here before =
    sym (names_twice_kept xs (i + 1) (
    names_twice_more xs i d within
    ∙ ap (λ y. names_twice (take i xs) || list_any (is_one_stream y) (take i xs)) here
    ∙ ap (λ b. names_twice (take i xs) || b) before
    ∙ or_true (names_twice (take i xs))))
  where
    or_true : (b : Bool) → (b || true) ≡ true
    or_true true = refl
    or_true false = refl

-- No stream is named twice among the first names, and which streams these name is known.
pub record NamedOnce (xs : List StreamRef) (i : ℕ) (has_default : Bool) (has : ℕ → Bool) : Type 0 where
  pub once : names_twice (take i xs) ≡ false
  pub default : has_default ≡ list_any (is_one_stream stream.Default) (take i xs)
  pub numbers : (q : ℕ) → has q ≡ list_any (is_one_stream (stream.Number q)) (take i xs)

-- one name more, which names no stream named before
pub NamedOnce-more : (xs : List StreamRef) (i : ℕ) (d x : StreamRef) (has_default has_default' : Bool) (has has' : ℕ → Bool)
    → i < length xs → get_or xs i d ≡ x → NamedOnce xs i has_default has → list_any (is_one_stream x) (take i xs) ≡ false
    → has_default' ≡ (has_default || is_one_stream stream.Default x) → ((q : ℕ) → has' q ≡ (has q || is_one_stream (stream.Number q) x))
    → NamedOnce xs (i + 1) has_default' has'
NamedOnce-more xs i d x has_default has_default' has has' within here named new default numbers = record {
  once =
      names_twice_more xs i d within
      ∙ ap (λ y. names_twice (take i xs) || list_any (is_one_stream y) (take i xs)) here
      ∙ ap (λ b. b || list_any (is_one_stream x) (take i xs)) named.once
      ∙ new;
  default = default ∙ ap (λ b. b || is_one_stream stream.Default x) named.default ∙ sym (any_here stream.Default);
  numbers = λ q. numbers q ∙ ap (λ b. b || is_one_stream (stream.Number q) x) (named.numbers q) ∙ sym (any_here (stream.Number q));
}
  where
    any_here : (y : StreamRef) → list_any (is_one_stream y) (take (i + 1) xs) ≡ (list_any (is_one_stream y) (take i xs) || is_one_stream y x)
    any_here y = list_any_more (is_one_stream y) xs i d within ∙ ap (λ z. list_any (is_one_stream y) (take i xs) || is_one_stream y z) here

-- a name that no stream has was never named
pub any-Other : (xs : List StreamRef) → list_any (is_one_stream stream.Other) xs ≡ false
any-Other [] = refl
any-Other (stream.Default ∷ xs) = any-Other xs
any-Other (stream.Number n ∷ xs) = any-Other xs
any-Other (stream.Other ∷ xs) = any-Other xs
