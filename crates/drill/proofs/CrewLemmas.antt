-- Lists of jobs.
use Rattle.std.proofs.Common.{◌≡◌, ℕ, List, length, Result, Ok, Err, sym, ◌∙◌, arith}
use Rattle.std.specs.Prelude.{slice_index_or, All, IfOk}
use denote.Param.Members.{Shared}
use Rattle.std.specs.Fork.{GivesJobs}

-- what the call of each job gave is so, and so is every element of what they gave
all_given : {F A B : Type 0} (g : Shared F (A × Unit {0}) B) (f : F) (P : B → Type 0) → ((a : A) (b : B) → g.post f (a, tt) b → P b)
    → (olds : List A) (news : List B) → length news ≡ length olds → GivesJobs g f olds news → All P news
all_given g f P then olds news same gives k d inside =
    let made = (gives k d (omega (arith, same, inside))).1 in
    then made.job (slice_index_or news k d) made.call.met

module _ {F A B V E : Type 0} (g : Shared F (A × Unit {0}) B) (f : F) (P : B → Type 0) (then : (a : A) (b : B) → g.post f (a, tt) b → P b) where
  pub given_ok : (olds : List A) (r : Result V E) (items : V → List B) (count : V → ℕ) → ((v : V) → count v ≡ length (items v)) → (n : ℕ) → n ≡ length olds
      → IfOk r (λ v. count v ≡ n) → IfOk r (λ v. GivesJobs g f olds (items v)) → IfOk r (λ v. All P (items v))
  given_ok olds (Ok v) items count counts n is same gives = all_given g f P then olds (items v) (sym (counts v) ∙ same ∙ is) gives
  given_ok olds (Err e) items count counts n is same gives = tt
