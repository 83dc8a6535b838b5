-- What waits on the streams once one is reset by the server.
use Rattle.std.proofs.Common.{◌≡◌, ℕ, nat_eq, Bool, true, false, List, [], ◌∷◌, refl, ap, ◌∙◌, if◌then◌else◌}
use Rattle.h2_answers.specs.Waiting.{Waiting, waiting_on, nothing, with_reset, ChangesOnly}
use Rattle.h2_record.proofs.BoolLemmas.{same-self}

-- what waited is dropped, and then a reset waits
pub changes-reset : (old between new : List (ℕ × Waiting)) (id code : ℕ) → ChangesOnly old between id nothing → ChangesOnly between new id (with_reset (waiting_on between id) code)
    → ChangesOnly old new id (record nothing { resets = code ∷ [] })
changes-reset old between new id code dropped given other =
    let here : waiting_on between id ≡ nothing = dropped id ∙ ap (λ b. if b then nothing else waiting_on old id) (same-self id) in
    given other ∙ (λ i. if nat_eq id other then with_reset (here i) code else dropped other i) ∙ chosen (nat_eq id other) (record nothing { resets = code ∷ [] }) nothing (waiting_on old other)
  where
    chosen : (b : Bool) (x y z : Waiting) → (if b then x else (if b then y else z)) ≡ (if b then x else z)
    chosen true x y z = refl
    chosen false x y z = refl
