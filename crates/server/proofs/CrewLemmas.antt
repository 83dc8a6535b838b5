-- Lists of workers.
use Rattle.std.proofs.Common.{◌≡◌, ℕ, suc, ◌<◌, List, [], ◌∷◌, length, Result, Ok, Err, sym, ◌∙◌, subst, arith}
use Rattle.std.specs.Prelude.{slice_index_or, IfOk}
use denote.Param.Members.{Shared}
use Rattle.std.specs.Fork.{GivesJobs}
use Rattle.server.specs.Crew.{Pairs}

module _ {A B : Type 0} where
  -- what holds place by place
  abbrev pub ByPlace : (A → B → Type 0) → List A → List B → Type 0
  ByPlace P olds news = (i : ℕ) (d : B) → i < length olds → (a : A) × ((e : A) → slice_index_or olds i e ≡ a) × P a (slice_index_or news i d)

  pub pairs_of : (P : A → B → Type 0) (olds : List A) (news : List B) → length news ≡ length olds → ByPlace P olds news → Pairs P olds news
  pairs_of P [] [] same by = tt
  pairs_of P [] (b ∷ news) same by = absurd (omega (arith, same))
  pairs_of P (a ∷ olds) [] same by = absurd (omega (arith, same))
  pairs_of P (a ∷ olds) (b ∷ news) same by =
      let first = by 0 b (omega arith) in (
        subst (λ x. P x b) (sym (first.1 a)) first.2,
        pairs_of P olds news (omega (arith, same)) (λ i d inside. by (suc i) d (omega (arith, inside))),
      )

-- two facts of a result that is there give a third
pub both_ok : {X E : Type 0} (r : Result X E) (P Q R : X → Type 0) → IfOk r P → IfOk r Q → ((x : X) → P x → Q x → R x) → IfOk r R
both_ok (Ok x) P Q R p q then = then x p q
both_ok (Err e) P Q R p q then = tt

-- what the calls of one closure gave, place by place
pub works_of : {F A B : Type 0} (g : Shared F (A × Unit {0}) B) (f : F) (olds : List A) (news : List B) → length news ≡ length olds → GivesJobs g f olds news
    → Pairs (λ old new. g.post f (old, tt) new) olds news
works_of g f olds news same gives = pairs_of (λ old new. g.post f (old, tt) new) olds news same (λ i d inside. let made = (gives i d inside).1 in (made.job, made.job_is, made.call.met))

-- the same of lists that are kept with their lengths
module _ {F A B V E : Type 0} (g : Shared F (A × Unit {0}) B) (f : F) (olds : List A) (r : Result V E) (items : V → List B) (count : V → ℕ) (counts : (v : V) → count v ≡ length (items v)) (n : ℕ) (is : n ≡ length olds) where
  pub works_ok : IfOk r (λ v. count v ≡ n) → IfOk r (λ v. GivesJobs g f olds (items v)) → IfOk r (λ v. Pairs (λ old new. g.post f (old, tt) new) olds (items v))
  works_ok same gives = both_ok r (λ v. count v ≡ n) (λ v. GivesJobs g f olds (items v)) (λ v. Pairs (λ old new. g.post f (old, tt) new) olds (items v)) same gives
      (λ v same gives. works_of g f olds (items v) (sym (counts v) ∙ same ∙ is) gives)
