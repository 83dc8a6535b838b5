-- Functions that change at one place, lists read by place, and histories that begin one another.
use Rattle.std.proofs.Common.{◌≡◌, ◌≢◌, ◌⊎◌, ℕ, zero, suc, ◌+◌, ◌<◌, ◌≤◌, leb, leb-true, leb-false, ◌==◌, ne_eqb, Bool, true, false, cond, List, [], ◌∷◌, ◌++◌, length, count_by, None, Some, unwrap_or, refl, sym, ap, ◌∙◌, subst, inl, inr, arith, append_assoc, append-nil, length-append}
use Rattle.std.proofs.lemmas.List.Sums.{sum_by-append}
use mathlib.Core.Option.{some, some-injective, some-ne-none}
use native.Mathlib.Decide.{ℕ_discrete}
use lib.ListN.{get_elem?}
use Rattle.turn_table.specs.Rule.{Front, longer}

-- ---- a function with another value at one place

abbrev pick : {P : Type 0} → Dec P → ℕ → ℕ → ℕ
pick (yes _) a b = a
pick (no _) a b = b

pub put : (ℕ → ℕ) → ℕ → ℕ → ℕ → ℕ
put f i c j = pick (ℕ_discrete j i) c (f j)

pub put_here : (f : ℕ → ℕ) (i c : ℕ) → put f i c i ≡ c
unfolding put
put_here f i c = go (ℕ_discrete i i)
  where
    go : (d : Dec (i ≡ i)) → pick d c (f i) ≡ c
    go (yes _) = refl
    go (no n) = absurd (n refl)

pub put_else : (f : ℕ → ℕ) (i c j : ℕ) → j ≢ i → put f i c j ≡ f j
unfolding put
put_else f i c j other = go (ℕ_discrete j i)
  where
    go : (d : Dec (j ≡ i)) → pick d c (f j) ≡ f j
    go (yes e) = absurd (other e)
    go (no _) = refl

-- ---- options

pub some_same : {A : Type 0} (a b : A) → Some a ≡ Some b → a ≡ b
some_same a b e = ap (λ o. unwrap_or o a) e

pub none_some : {A : Type 0} (a : A) → None ≡ Some a → ⊥
none_some a e = absurd (cc)

-- ---- places

pub at_length : {A : Type 0} (l : List A) (i : ℕ) (a : A) → get_elem? l i ≡ some a → i < length l
at_length [] i a e = absurd (some-ne-none a (sym e))
at_length (x ∷ xs) zero a e = omega arith
at_length (x ∷ xs) (suc i) a e = let h = at_length xs i a e in omega arith

pub snoc_at : {A : Type 0} (l : List A) (a b : A) (j : ℕ) → get_elem? (l ++ a ∷ []) j ≡ some b → (get_elem? l j ≡ some b) ⊎ ((j ≡ length l) × (a ≡ b))
snoc_at [] a b zero e = inr (refl, some-injective a b e)
snoc_at [] a b (suc j) e = absurd (some-ne-none b (sym e))
snoc_at (x ∷ xs) a b zero e = inl e
snoc_at (x ∷ xs) a b (suc j) e = kept (snoc_at xs a b j e)
  where
    kept : (get_elem? xs j ≡ some b) ⊎ ((j ≡ length xs) × (a ≡ b)) → (get_elem? xs j ≡ some b) ⊎ ((suc j ≡ length (x ∷ xs)) × (a ≡ b))
    kept (inl at) = inl at
    kept (inr last) = inr (ap suc last.0, last.1)

-- ---- beginnings of one history

pub nil_of : {A : Type 0} (l : List A) → length l ≡ 0 → l ≡ []
nil_of [] e = refl
nil_of (x ∷ xs) e = absurd (omega arith)

pub none_more : {A : Type 0} (seen more : List A) → seen ≡ seen ++ more → more ≡ []
none_more seen more e = nil_of more (let a : length seen ≡ length seen + length more = ap length e ∙ length-append seen more in omega arith)

abbrev tail_of : {A : Type 0} → List A → List A
tail_of [] = []
tail_of (z ∷ zs) = zs

abbrev head_or : {A : Type 0} → A → List A → A
head_or d [] = d
head_or d (z ∷ zs) = z

pub between : {A : Type 0} (a b more rest : List A) → a ++ more ≡ b ++ rest → length a ≤ length b → (x : List A) × (b ≡ a ++ x) × (more ≡ x ++ rest)
between [] b more rest e short = (b, refl, e)
between (x ∷ a) [] more rest e short = absurd (omega arith)
between (x ∷ a) (y ∷ b) more rest e short =
    let t = between a b more rest (ap tail_of e) (omega arith) in
    (t.0, (λ i. head_or x (sym e i) ∷ t.1 i), t.2)

module _ {E : Type 0} (caller_of : E → ℕ) where
  abbrev pub carried : ℕ → List E → ℕ
  carried n entries = count_by (λ entry. caller_of entry == n) entries

  pub carried-append : (n : ℕ) (a b : List E) → carried n (a ++ b) ≡ carried n a + carried n b
  carried-append n a b = sum_by-append (λ entry. cond (caller_of entry == n) 1 0) a b

  pub carried-one : (n : ℕ) (entry : E) → caller_of entry ≢ n → carried n (entry ∷ []) ≡ 0
  carried-one n entry other = ap (λ (b : Bool). 0 + cond b 1 0) (ne_eqb (caller_of entry) n other)

  pub carried-more : (n : ℕ) (log : List E) (entry : E) → caller_of entry ≢ n → carried n log ≡ 0 → carried n (log ++ entry ∷ []) ≡ 0
  carried-more n log entry other none =
      let both = carried-append n log (entry ∷ []) in let one = carried-one n entry other in both ∙ (let s : carried n log + carried n (entry ∷ []) ≡ 0 = omega arith in s)

  pub carried-front : (n : ℕ) (a b : List E) → carried n (a ++ b) ≡ 0 → (carried n a ≡ 0) × (carried n b ≡ 0)
  carried-front n a b none = let both = carried-append n a b in (omega arith, omega arith)

  -- a history goes on from itself
  pub front_same : (n : ℕ) (log : List E) → Front caller_of n log log
  front_same n log = record { more = []; is = sym (append-nil log); others = refl }

  -- one entry more, of another
  pub front_more : (n : ℕ) (seen log : List E) (entry : E) → caller_of entry ≢ n → Front caller_of n seen log → Front caller_of n seen (log ++ entry ∷ [])
  front_more n seen log entry other front = record {
    more = front.more ++ entry ∷ [];
    is = ap (λ l. l ++ entry ∷ []) front.is ∙ append_assoc seen front.more (entry ∷ []);
    others = carried-more n front.more entry other front.others;
  }

  -- no entry at all
  pub front_unused : (n : ℕ) (seen log more : List E) → log ≡ seen ++ more → carried n log ≡ 0 → Front caller_of n seen log
  front_unused n seen log more is none = record { more = more; is = is; others = (carried-front n seen more (ap (carried n) (sym is) ∙ none)).1 }

  -- of two beginnings of one history, the shorter begins the longer
  pub front_longer : (n : ℕ) (a b log rest : List E) → Front caller_of n a log → log ≡ b ++ rest → length a ≤ length b → Front caller_of n a b
  front_longer n a b log rest front is short =
      let t = between a b front.more rest (sym front.is ∙ is) short in
      record { more = t.0; is = t.1; others = (carried-front n t.0 rest (ap (carried n) (sym t.2) ∙ front.others)).0 }

  -- what goes on from the shorter in the history goes on from it in the longer, which begins the history
  pub record Joint (m n : ℕ) (a b log : List E) : Type 0 where
    pub left : Front caller_of m a (longer a b)
    pub right : Front caller_of n b (longer a b)
    pub log_left : Front caller_of m (longer a b) log
    pub log_right : Front caller_of n (longer a b) log

  front_rest : (n : ℕ) (a b log rest : List E) → Front caller_of n a log → log ≡ b ++ rest → length a ≤ length b → Front caller_of n b log
  front_rest n a b log rest front is short =
      let t = between a b front.more rest (sym front.is ∙ is) short in
      record { more = rest; is = is; others = (carried-front n t.0 rest (ap (carried n) (sym t.2) ∙ front.others)).1 }

  pub joint : (m n : ℕ) (a b log : List E) → Front caller_of m a log → Front caller_of n b log → Joint m n a b log
  joint m n a b log fa fb = by_length (leb (length a) (length b)) refl
    where
      by_length : (c : Bool) → leb (length a) (length b) ≡ c → Joint m n a b log
      by_length true e = let same : longer a b ≡ b = ap (λ c. cond c b a) e in let short = leb-true (length a) (length b) e in record {
        left = subst (Front caller_of m a) (sym same) (front_longer m a b log fb.more fa fb.is short);
        right = subst (Front caller_of n b) (sym same) (front_same n b);
        log_left = subst (λ l. Front caller_of m l log) (sym same) (front_rest m a b log fb.more fa fb.is short);
        log_right = subst (λ l. Front caller_of n l log) (sym same) fb;
      }
      by_length false e = let same : longer a b ≡ a = ap (λ c. cond c b a) e in let less = leb-false (length a) (length b) e in let short : length b ≤ length a = omega arith in record {
        left = subst (Front caller_of m a) (sym same) (front_same m a);
        right = subst (Front caller_of n b) (sym same) (front_longer n b a log fa.more fb fa.is short);
        log_left = subst (λ l. Front caller_of m l log) (sym same) fa;
        log_right = subst (λ l. Front caller_of n l log) (sym same) (front_rest n b a log fa.more fb fa.is short);
      }

pub longer_is : {E : Type 0} (a b : List E) → (longer a b ≡ a) ⊎ (longer a b ≡ b)
longer_is a b = by_length (leb (length a) (length b)) refl
  where
    by_length : (c : Bool) → leb (length a) (length b) ≡ c → (longer a b ≡ a) ⊎ (longer a b ≡ b)
    by_length true e = inr (ap (λ c. cond c b a) e)
    by_length false e = inl (ap (λ c. cond c b a) e)
