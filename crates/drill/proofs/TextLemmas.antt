-- The five lines.
use Rattle.std.proofs.Common.{◌≡◌, ℕ, ℤ, List, [], ◌++◌, ap, ◌∙◌}
use Rattle.drill.specs.Summary.{lines_of}

-- one behind another
pub five : (a b c d e t0 t1 t2 t3 t4 t5 : List ℕ) → t0 ≡ [] → t1 ≡ t0 ++ a → t2 ≡ t1 ++ b → t3 ≡ t2 ++ c → t4 ≡ t3 ++ d → t5 ≡ t4 ++ e
    → t5 ≡ a ++ b ++ c ++ d ++ e
five a b c d e t0 t1 t2 t3 t4 t5 zeroth first second third fourth fifth =
    fifth ∙ ap (λ t. t ++ e) (fourth ∙ ap (λ t. t ++ d) (third ∙ ap (λ t. t ++ c) (second ∙ ap (λ t. t ++ b) (first ∙ ap (λ t. t ++ a) zeroth))))

-- the lines of equal numbers
pub lines_same : (repeats a b c a' b' c' : ℕ) (s s' : ℤ) (text : List ℕ) → a ≡ a' → b ≡ b' → c ≡ c' → s ≡ s' → text ≡ lines_of a repeats b c s → text ≡ lines_of a' repeats b' c' s'
lines_same repeats a b c a' b' c' s s' text appends visible matching sum is =
    is ∙ ap (λ x. lines_of x repeats b c s) appends ∙ ap (λ x. lines_of a' repeats x c s) visible ∙ ap (λ x. lines_of a' repeats b' x s) matching
    ∙ ap (lines_of a' repeats b' c') sum
