-- A list with one element more, element by element.
use Rattle.std.proofs.Common.{◌≡◌, ℕ, zero, suc, Bool, false, List, [], ◌∷◌, ◌++◌, length, None, Some, refl, sym, ap, ◌∙◌, arith}
use Rattle.std.specs.Prelude.{Option, ◌==◌, if◌then◌else◌}
use Rattle.std.specs.List.{slice_get}
use Rattle.std.proofs.lemmas.Bool.Decides.{nat_tests}

never_zero : (i : ℕ) → (suc i == 0) ≡ false
never_zero i = grind (arith, nat_tests)

zero_never : (n : ℕ) → (0 == suc n) ≡ false
zero_never n = grind (arith, nat_tests)

both_less : (i n : ℕ) → (i == n) ≡ (suc i == suc n)
both_less i n = grind (arith, nat_tests)

pub slice_get-push : {X : Type 0} (xs : List X) (i : ℕ) (x : X) → slice_get (xs ++ x ∷ []) i ≡ (if i == length xs then Some x else slice_get xs i)
slice_get-push [] zero x = refl
slice_get-push {X} [] (suc i) x = ap (λ b. if b then Some x else None) (sym (never_zero i))
slice_get-push (y ∷ ys) zero x = ap (λ b. if b then Some x else Some y) (sym (zero_never (length ys)))
slice_get-push (y ∷ ys) (suc i) x = slice_get-push ys i x ∙ ap (λ b. if b then Some x else slice_get ys i) (both_less i (length ys))
