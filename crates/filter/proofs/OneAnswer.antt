-- A text has one answer.
use Rattle.std.proofs.Common.{◌≡◌, ℕ, ◌+◌, ◌<◌, ◌≤◌, ◌⊎◌, inl, inr, List, [], ◌∷◌, ◌++◌, length, drop, Option, Some, None, Result, Ok, Err, refl, sym, ◌∙◌, ap, subst, arith, append_assoc, append-nil, if◌then◌else◌}
use Rattle.std.proofs.lemmas.List.Sums.{sum_by-append}
use Rattle.column_types.specs.declared.column.Column.{Column}
use Rattle.column_types.specs.declared.predicate.Pred.{Pred}
use Rattle.filter.specs.declared.fault.FilterFault.{FilterFault}
use Rattle.filter.specs.declared.fault.FilterFault.TheVariants as fault
use Rattle.filter.specs.declared.limits.TheConstants.{MAX_BYTES, MAX_LITERALS, MAX_DEPTH}
use Rattle.filter.specs.declared.meaning.TestFault.TheVariants as bad
use Rattle.filter.specs.declared.token.Token.{Token}
use Rattle.filter.specs.Grammar.{TextTree, text_tokens, text_depth}
use Rattle.filter.specs.Machine.{start, end}
use Rattle.filter.specs.Meaning.{Meaning, text_meaning}
use Rattle.filter.specs.Restriction.{ends_literal, literal_count, CanGoOn, IsWithinLimits, PassesLimit, CannotFollow, CannotStand, IsSyntaxAt, Means, Answers, IsOneAnswer}
use Rattle.filter.specs.Text.{past_blanks, token_at, sign_at, Begins, Found}
use Rattle.filter.proofs.Runs.{Runs, Runs-same}
use Rattle.filter.proofs.Trees.{text_run}

token_in : Token → Found → Token
token_in other (Some found) = found.0
token_in other None = other

len_in : Found → ℕ
len_in (Some found) = found.1
len_in None = 0

token_same : (x y : Token) (n m : ℕ) → ◌≡◌ {A = Found} (Some (x, n)) (Some (y, m)) → x ≡ y
unfolding token_in
token_same x y n m e = ap (token_in x) e

len_same : (x y : Token) (n m : ℕ) → ◌≡◌ {A = Found} (Some (x, n)) (Some (y, m)) → n ≡ m
unfolding len_in
len_same x y n m e = ap len_in e

-- Of two fronts of a text one goes on to the other.
GoesOn : List Token → List ℕ → List Token → List ℕ → Type 0
GoesOn xs r ys s = (more : List Token) × (ys ≡ xs ++ more) × Begins r more s

Longer : List Token → List ℕ → List Token → List ℕ → Type 0
Longer xs r ys s = (t : Token) × (more : List Token) × (xs ≡ ys ++ t ∷ more) × Begins s (t ∷ more) r

compared_behind : (x y : Token) (xs ys : List Token) (r s : List ℕ) → x ≡ y → GoesOn xs r ys s ⊎ Longer xs r ys s → GoesOn (x ∷ xs) r (y ∷ ys) s ⊎ Longer (x ∷ xs) r (y ∷ ys) s
unfolding GoesOn Longer
compared_behind x y xs ys r s same (inl h) = inl (h.0, ap (λ ts. y ∷ ts) h.1 ∙ ap (λ t. t ∷ (xs ++ h.0)) (sym same), h.2)
compared_behind x y xs ys r s same (inr h) = inr (h.0, h.1, ap (λ ts. x ∷ ts) h.2 ∙ ap (λ t. t ∷ (ys ++ h.0 ∷ h.1)) same, h.3)

compared : (xs ys : List Token) (text r s : List ℕ) → Begins text xs r → Begins text ys s → GoesOn xs r ys s ⊎ Longer xs r ys s
unfolding GoesOn Longer
compared [] ys text r s a b = inl (ys, refl, subst (λ t. Begins t ys s) a b)
compared (x ∷ xs) [] text r s a b = inr (x, xs, refl, subst (λ t. Begins t (x ∷ xs) r) b a)
compared (x ∷ xs) (y ∷ ys) text r s a b =
    let same_len : b.0 ≡ a.0 = len_same y x b.0 a.0 (sym b.1 ∙ a.1) in
    compared_behind x y xs ys r s (token_same x y a.0 b.0 (sym a.1 ∙ b.1))
    (compared xs ys (drop a.0 (past_blanks text)) r s a.2 (subst (λ n. Begins (drop n (past_blanks text)) ys s) same_len b.2))

-- a token that stands next can't stand behind blanks alone
no_token : {A : Type 0} (r s : List ℕ) (t : Token) (more : List Token) → past_blanks r ≡ [] → Begins r (t ∷ more) s → A
unfolding token_at sign_at
no_token r s t more none h = let e : ◌≡◌ {A = Found} None (Some (t, h.0)) = sym (ap token_at none) ∙ h.1 in absurd (cc)

stuck_at : (tokens : List Token) (found : Found) (next : Token × ℕ) → found ≡ Some next → CannotFollow tokens found → CanGoOn (tokens ++ next.0 ∷ []) → ⊥
stuck_at tokens None next e cannot goes = absurd (cc)
stuck_at tokens (Some found) next e cannot goes = cannot (subst (λ t. CanGoOn (tokens ++ t ∷ [])) (sym (token_same found.0 next.0 found.1 next.1 e)) goes)

stuck : (tokens : List Token) (bytes : List ℕ) (next : Token × ℕ) → token_at bytes ≡ Some next → CannotStand tokens bytes → CanGoOn (tokens ++ next.0 ∷ []) → ⊥
unfolding token_at sign_at
stuck tokens [] next e cannot goes = absurd (cc)
stuck tokens (b ∷ bytes) next e cannot goes = stuck_at tokens (token_at (b ∷ bytes)) next e cannot goes

-- what can't stand behind the tokens stands there
cannot_next : {A : Type 0} (tokens : List Token) (r s : List ℕ) (t : Token) (more : List Token) → CannotStand tokens (past_blanks r) → Begins r (t ∷ more) s → CanGoOn (tokens ++ t ∷ more) → A
cannot_next tokens r s t more cannot h goes =
    absurd (stuck tokens (past_blanks r) (t, h.0) h.1 cannot (goes.0, more ++ goes.1, goes.2 ∙ simp append_assoc))

no_limit : (xs more : List Token) → IsWithinLimits (xs ++ more) → IsWithinLimits xs
no_limit xs more h = (
  (h.0.0, more ++ h.0.1, h.0.2 ∙ append_assoc xs more h.0.1, h.0.3),
  (let few = h.1 in omega (arith, few, sum_by-append (λ t. if ends_literal t then 1 else 0) xs more)),
)

module _ (columns : List Column) (text : List ℕ) where
  one_meaning : (tree other : TextTree) → text_tokens tree ≡ text_tokens other → text_depth tree ≤ MAX_DEPTH → text_depth other ≤ MAX_DEPTH → text_meaning columns tree ≡ text_meaning columns other
  one_meaning tree other same fits fits_too =
      let a = text_run tree columns MAX_DEPTH fits in
      let b = text_run other columns MAX_DEPTH fits_too in
      let run = subst (λ ts. Runs columns MAX_DEPTH start ts b.0) (sym same) b.1 in
      some_same (sym a.2 ∙ ap (end columns) (Runs-same columns MAX_DEPTH (text_tokens tree) start a.0 b.0 a.1 run) ∙ b.2)
    where
      some_same : {m n : Meaning} → Some m ≡ Some n → m ≡ n
      some_same e = cc

  means_once : (m n : Meaning) → Means columns text m → Means columns text n → m ≡ n
  unfolding GoesOn Longer
  means_once m n a b = elim (compared (text_tokens a.0) (text_tokens b.0) text a.1 b.1 a.2 b.2) [
    | inl h ↦ same_front h.0 h.1 h.2
    | inr h ↦ no_token b.1 a.1 h.0 h.1 b.3 h.3
  ]
    where
      same_front : (more : List Token) → text_tokens b.0 ≡ text_tokens a.0 ++ more → Begins a.1 more b.1 → m ≡ n
      same_front [] e h = sym a.6 ∙ one_meaning a.0 b.0 (sym (e ∙ append-nil (text_tokens a.0))) a.4 b.4 ∙ b.6
      same_front (t ∷ more) e h = no_token a.1 b.1 t more a.3 h

  syntax_once : (i j : ℕ) → IsSyntaxAt text i → IsSyntaxAt text j → i ≡ j
  unfolding GoesOn Longer
  syntax_once i j a b = elim (compared a.0 b.0 text a.1 b.1 a.2 b.2) [
    | inl h ↦ same_front h.0 h.1 h.2
    | inr h ↦ cannot_next b.0 b.1 a.1 h.0 h.1 b.4 h.3 (subst CanGoOn h.2 (goes_of a.0 a.3))
  ]
    where
      goes_of : (ts : List Token) → IsWithinLimits ts → CanGoOn ts
      goes_of ts h = (h.0.0, h.0.1, h.0.2)

      same_front : (more : List Token) → b.0 ≡ a.0 ++ more → Begins a.1 more b.1 → i ≡ j
      same_front [] e h = omega (arith, a.5, b.5, ap (λ r. length (past_blanks r)) h)
      same_front (t ∷ more) e h = cannot_next a.0 a.1 b.1 t more a.4 h (subst CanGoOn e (goes_of b.0 b.3))

  means_no_syntax : {A : Type 0} (m : Meaning) (i : ℕ) → Means columns text m → IsSyntaxAt text i → A
  unfolding GoesOn Longer
  means_no_syntax {A} m i a b = elim (compared b.0 (text_tokens a.0) text b.1 a.1 b.2 a.2) [
    | inl h ↦ on_front h.0 h.1 h.2
    | inr h ↦ no_token a.1 b.1 h.0 h.1 a.3 h.3
  ]
    where
      on_front : (more : List Token) → text_tokens a.0 ≡ b.0 ++ more → Begins b.1 more a.1 → A
      on_front [] e h =
          absurd (subst (CannotStand b.0) (ap past_blanks h ∙ a.3) b.4 a.0 (e ∙ append-nil b.0))
      on_front (t ∷ more) e h = cannot_next b.0 b.1 a.1 t more b.4 h (a.0, [], e ∙ sym (append-nil (b.0 ++ t ∷ more)))

  means_no_limit : {A : Type 0} (m : Meaning) → Means columns text m → PassesLimit text → A
  unfolding GoesOn Longer
  means_no_limit m a b = elim (compared b.0 (text_tokens a.0) text b.1 a.1 b.2 a.2) [
    | inl h ↦ absurd (b.4 (no_limit b.0 h.0 (subst IsWithinLimits h.1 ((a.0, [], sym (append-nil (text_tokens a.0)), a.4), a.5))))
    | inr h ↦ no_token a.1 b.1 h.0 h.1 a.3 h.3
  ]

  syntax_no_limit : {A : Type 0} (i : ℕ) → IsSyntaxAt text i → PassesLimit text → A
  unfolding GoesOn Longer
  syntax_no_limit i a b = elim (compared b.0 a.0 text b.1 a.1 b.2 a.2) [
    | inl h ↦ absurd (b.4 (no_limit b.0 h.0 (subst IsWithinLimits h.1 a.3)))
    | inr h ↦ cannot_next a.0 a.1 b.1 h.0 h.1 a.4 h.3 (subst CanGoOn h.2 b.3)
  ]

  answer_of : Meaning → Result Pred FilterFault
  answer_of (Ok pred) = Ok pred
  answer_of (Err (bad.UnknownColumn name)) = Err (fault.UnknownColumn name)
  answer_of (Err (bad.IllTyped name)) = Err (fault.IllTyped name)

  data Cause (a : Result Pred FilterFault) : Type 0 where
    memory : a ≡ Err fault.Memory → Cause a
    long : (MAX_BYTES < length text) ⊎ PassesLimit text → a ≡ Err fault.Long → Cause a
    syntax : (at : ℕ) → length text ≤ MAX_BYTES → IsSyntaxAt text at → a ≡ Err (fault.Syntax at) → Cause a
    meaning : (m : Meaning) → length text ≤ MAX_BYTES → Means columns text m → a ≡ answer_of m → Cause a

  cause_of : (a : Result Pred FilterFault) → Answers columns text a → Cause a
  unfolding answer_of
  cause_of (Ok pred) h = meaning (Ok pred) h.0 h.1 refl
  cause_of (Err fault.Memory) h = memory refl
  cause_of (Err fault.Long) h = long h refl
  cause_of (Err (fault.Syntax at)) h = syntax at h.0 h.1 refl
  cause_of (Err (fault.UnknownColumn name)) h = meaning (Err (bad.UnknownColumn name)) h.0 h.1 refl
  cause_of (Err (fault.IllTyped name)) h = meaning (Err (bad.IllTyped name)) h.0 h.1 refl

  one_cause : (a b : Result Pred FilterFault) → Cause a → Cause b → IsOneAnswer a b
  one_cause a b (memory e) h = inr (inl e)
  one_cause a b h (memory e) = inr (inr e)
  one_cause a b (long x e) (long y d) = inl (e ∙ sym d)
  one_cause a b (long (inl x) e) (syntax at few y d) = absurd (omega arith)
  one_cause a b (long (inr x) e) (syntax at few y d) = syntax_no_limit at y x
  one_cause a b (long (inl x) e) (meaning m few y d) = absurd (omega arith)
  one_cause a b (long (inr x) e) (meaning m few y d) = means_no_limit m y x
  one_cause a b (syntax at few y d) (long (inl x) e) = absurd (omega arith)
  one_cause a b (syntax at few y d) (long (inr x) e) = syntax_no_limit at y x
  one_cause a b (syntax i few x e) (syntax j few_too y d) = inl (e ∙ ap (λ at. Err (fault.Syntax at)) (syntax_once i j x y) ∙ sym d)
  one_cause a b (syntax i few x e) (meaning m few_too y d) = means_no_syntax m i y x
  one_cause a b (meaning m few y d) (long (inl x) e) = absurd (omega arith)
  one_cause a b (meaning m few y d) (long (inr x) e) = means_no_limit m y x
  one_cause a b (meaning m few y d) (syntax i few_too x e) = means_no_syntax m i y x
  one_cause a b (meaning m few x e) (meaning n few_too y d) = inl (e ∙ ap answer_of (means_once m n x y) ∙ sym d)

pub one_answer : (columns : List Column) (text : List ℕ) (a b : Result Pred FilterFault) → Answers columns text a → Answers columns text b → IsOneAnswer a b
one_answer columns text a b x y = one_cause columns text a b (cause_of columns text a x) (cause_of columns text b y)
