-- The ids that were begun rise, and those that live are some of them.
use Rattle.std.proofs.Common.{◌≡◌, ℕ, ◌<◌, ◌≤◌, nat_lt, nat_eq, ◌==◌, Bool, true, false, not, cond, ◌&&◌, ◌||◌, List, [], ◌∷◌, ◌++◌, filter, refl, sym, ap, subst, ◌∙◌, arith, if◌then◌else◌}
use Rattle.std.specs.List.{list_any, IsDistinct, AllByRecursion}
use Rattle.std.specs.Map.{keys_of, remove_entry}
use Rattle.std.proofs.lemmas.Cmp.{nat_eq_equiv}
use Rattle.std.proofs.lemmas.List.Folds.{list_any-append}
use Rattle.std.proofs.lemmas.Map.Keys.{IsDistinct-push}
use Rattle.h2_frames.specs.declared.frame.Frame.TheVariants as frames
use Rattle.h2_record.specs.Record.{Record, In, any_in}
use Rattle.h2_record.specs.Ids.{last_of, begun_of}
use Rattle.h2_record.specs.Live.{opens}
use Rattle.h2_record.proofs.BoolLemmas.{or-none, lt-true, lt-false, apart-above, same-eq, by-test}

-- no id above the last was begun
above-by : (r : Record) (stream id : ℕ) (b : Bool) → nat_lt (last_of r) stream ≡ b → (last_of r < id → list_any (nat_eq id) (begun_of r) ≡ false)
    → (if b then stream else last_of r) < id → list_any (nat_eq id) (if b then begun_of r ++ stream ∷ [] else begun_of r) ≡ false
above-by r stream id true risen before above =
    let below : last_of r < stream = lt-true (last_of r) stream risen in
    list_any-append (nat_eq id) (begun_of r) (stream ∷ [])
    ∙ or-none (list_any (nat_eq id) (begun_of r)) (nat_eq id stream || false) (before (omega arith)) (or-none (nat_eq id stream) false (apart-above id stream above) refl)
above-by r stream id false risen before above = before above

pub none-above : (r : Record) (id : ℕ) → last_of r < id → list_any (nat_eq id) (begun_of r) ≡ false
none-above [] id above = refl
none-above (In (frames.Headers stream end whole fragment) ∷ r) id above = above-by r stream id (nat_lt (last_of r) stream) refl (none-above r id) above
none-above (x ∷ r) id above = none-above r id above

-- HEADERS came on no id above the last
opens-by : (r : Record) (stream id : ℕ) (b : Bool) → nat_lt (last_of r) stream ≡ b → (last_of r < id → any_in (opens id) r ≡ false)
    → (if b then stream else last_of r) < id → ((id == stream) || any_in (opens id) r) ≡ false
opens-by r stream id true risen before above =
    let below : last_of r < stream = lt-true (last_of r) stream risen in
    or-none (id == stream) (any_in (opens id) r) (apart-above id stream above) (before (omega arith))
opens-by r stream id false risen before above =
    let over : stream ≤ last_of r = lt-false (last_of r) stream risen in
    or-none (id == stream) (any_in (opens id) r) (apart-above id stream (omega arith)) (before above)

pub unopened : (r : Record) (id : ℕ) → last_of r < id → any_in (opens id) r ≡ false
unopened [] id above = refl
unopened (In (frames.Headers stream end whole fragment) ∷ r) id above = opens-by r stream id (nat_lt (last_of r) stream) refl (unopened r id) above
unopened (x ∷ r) id above = unopened r id above

-- each id was begun once
distinct-by : (r : Record) (stream : ℕ) (b : Bool) → nat_lt (last_of r) stream ≡ b → IsDistinct nat_eq (begun_of r) → IsDistinct nat_eq (if b then begun_of r ++ stream ∷ [] else begun_of r)
distinct-by r stream true risen before = IsDistinct-push nat_eq_equiv (begun_of r) stream before (none-above r stream (lt-true (last_of r) stream risen))
distinct-by r stream false risen before = before

pub distinct-begun : (r : Record) → IsDistinct nat_eq (begun_of r)
unfolding IsDistinct
distinct-begun [] = tt
distinct-begun (In (frames.Headers stream end whole fragment) ∷ r) = distinct-by r stream (nat_lt (last_of r) stream) refl (distinct-begun r)
distinct-begun (x ∷ r) = distinct-begun r

-- a filter by tests that agree
pub filter-same : (p q : ℕ → Bool) (xs : List ℕ) → ((x : ℕ) → p x ≡ q x) → filter p xs ≡ filter q xs
filter-same p q [] same = refl
filter-same p q (x ∷ xs) same = λ i. cond (same x i) (x ∷ filter-same p q xs same i) (filter-same p q xs same i)

-- the same over the elements alone
pub filter-agree : (p q : ℕ → Bool) (xs : List ℕ) → AllByRecursion (λ x. p x ≡ q x) xs → filter p xs ≡ filter q xs
filter-agree p q [] same = refl
filter-agree p q (x ∷ xs) same = λ i. cond (same.0 i) (x ∷ filter-agree p q xs same.1 i) (filter-agree p q xs same.1 i)

pub filter-append : (p : ℕ → Bool) (xs ys : List ℕ) → filter p (xs ++ ys) ≡ filter p xs ++ filter p ys
filter-append p [] ys = refl
filter-append p (x ∷ xs) ys = by (p x) (filter-append p xs ys)
  where
    by : (b : Bool) → filter p (xs ++ ys) ≡ filter p xs ++ filter p ys → cond b (x ∷ filter p (xs ++ ys)) (filter p (xs ++ ys)) ≡ cond b (x ∷ filter p xs) (filter p xs) ++ filter p ys
    by true rest = ap (λ kept. x ∷ kept) rest
    by false rest = rest

-- what is apart from all is apart from those that are kept
apart-kept : (e : ℕ → ℕ → Bool) (k : ℕ) (p : ℕ → Bool) (xs : List ℕ) → AllByRecursion (λ y. e k y ≡ false) xs → AllByRecursion (λ y. e k y ≡ false) (filter p xs)
apart-kept e k p [] h = tt
apart-kept e k p (x ∷ xs) h = by (p x) (apart-kept e k p xs h.1)
  where
    by : (b : Bool) → AllByRecursion (λ y. e k y ≡ false) (filter p xs) → AllByRecursion (λ y. e k y ≡ false) (cond b (x ∷ filter p xs) (filter p xs))
    by true rest = (h.0, rest)
    by false rest = rest

pub distinct-filter : (p : ℕ → Bool) (xs : List ℕ) → IsDistinct nat_eq xs → IsDistinct nat_eq (filter p xs)
unfolding IsDistinct
distinct-filter p [] h = tt
distinct-filter p (x ∷ xs) h = by (p x) (distinct-filter p xs h.1)
  where
    by : (b : Bool) → IsDistinct nat_eq (filter p xs) → IsDistinct nat_eq (cond b (x ∷ filter p xs) (filter p xs))
    by true rest = (apart-kept nat_eq x p xs h.0, rest)
    by false rest = rest

-- without the first that is equal
remove_first : ℕ → List ℕ → List ℕ
remove_first id [] = []
remove_first id (x ∷ xs) = cond (nat_eq id x) xs (x ∷ remove_first id xs)

keys-remove : {X : Type 0} (id : ℕ) (es : List (ℕ × X)) → keys_of (remove_entry (nat_eq id) es) ≡ remove_first id (keys_of es)
unfolding remove_first
keys-remove id [] = refl
keys-remove {X} id (e ∷ es) = by (nat_eq id e.0) (keys-remove id es)
  where
    by : (b : Bool) → keys_of (remove_entry (nat_eq id) es) ≡ remove_first id (keys_of es)
        → keys_of (cond b es (e ∷ remove_entry (nat_eq id) es)) ≡ cond b (keys_of es) (e.0 ∷ remove_first id (keys_of es))
    by true rest = refl
    by false rest = ap (λ l. e.0 ∷ l) rest

-- where none is equal, a filter by being apart keeps all
all-kept : (id : ℕ) (xs : List ℕ) → AllByRecursion (λ y. nat_eq id y ≡ false) xs → filter (λ x. not (nat_eq id x)) xs ≡ xs
all-kept id [] h = refl
all-kept id (x ∷ xs) h = (λ i. cond (not (h.0 i)) (x ∷ all-kept id xs h.1 i) (all-kept id xs h.1 i))

remove-filter : (id : ℕ) (xs : List ℕ) → IsDistinct nat_eq xs → remove_first id xs ≡ filter (λ x. not (nat_eq id x)) xs
unfolding IsDistinct remove_first
remove-filter id [] h = refl
remove-filter id (x ∷ xs) h = by-test (nat_eq id x)
    (λ same. (λ i. cond (same i) xs (x ∷ remove_first id xs))
    ∙ sym (all-kept id xs (subst (λ (k : ℕ). AllByRecursion (λ y. nat_eq k y ≡ false) xs) (sym (same-eq id x same)) h.0))
    ∙ sym (λ i. cond (not (same i)) (x ∷ filter (λ x. not (nat_eq id x)) xs) (filter (λ x. not (nat_eq id x)) xs)))
    (λ apart. (λ i. cond (apart i) xs (x ∷ remove_first id xs)) ∙ ap (λ l. x ∷ l) (remove-filter id xs h.1)
    ∙ sym (λ i. cond (not (apart i)) (x ∷ filter (λ x. not (nat_eq id x)) xs) (filter (λ x. not (nat_eq id x)) xs)))

filter-twice : (p q : ℕ → Bool) (xs : List ℕ) → filter q (filter p xs) ≡ filter (λ x. p x && q x) xs
filter-twice p q [] = refl
filter-twice p q (x ∷ xs) = by (p x) (filter-twice p q xs)
  where
    by : (b : Bool) → filter q (filter p xs) ≡ filter (λ x. p x && q x) xs → filter q (cond b (x ∷ filter p xs) (filter p xs)) ≡ cond (b && q x) (x ∷ filter (λ x. p x && q x) xs) (filter (λ x. p x && q x) xs)
    by true rest = ap (λ l. cond (q x) (x ∷ l) l) rest
    by false rest = rest

-- one key less: those of which the test holds no more
pub keys-closed : {X : Type 0} (p q : ℕ → Bool) (id : ℕ) (xs : List ℕ) (es : List (ℕ × X)) → IsDistinct nat_eq xs → keys_of es ≡ filter p xs
    → ((x : ℕ) → q x ≡ (p x && not (nat_eq id x))) → keys_of (remove_entry (nat_eq id) es) ≡ filter q xs
keys-closed {X} p q id xs es distinct keys test =
    keys-remove id es ∙ ap (remove_first id) keys ∙ remove-filter id (filter p xs) (distinct-filter p xs distinct)
    ∙ filter-twice p (λ x. not (nat_eq id x)) xs ∙ sym (filter-same q (λ x. p x && not (nat_eq id x)) xs test)
