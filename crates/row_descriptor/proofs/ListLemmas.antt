-- On lists of which none is missing: those read so far in front of what the others give.
use Rattle.std.proofs.Common.{◌≡◌, List, [], ◌∷◌, ◌++◌, Option, Some, None, refl, ap, append_assoc}
use Rattle.proto_fields.specs.Chain.{◌>>=◌}

abbrev pub with_front : {A : Type 0} → List A → Option (List A) → Option (List A)
with_front front (Some others) = Some (front ++ others)
with_front front None = None

pub with_front-nil : {A : Type 0} (r : Option (List A)) → with_front [] r ≡ r
with_front-nil (Some others) = refl
with_front-nil None = refl

-- one more is read
pub with_front-more : {A : Type 0} (front : List A) (x : A) (r : Option (List A)) → with_front (front ++ x ∷ []) r ≡ with_front front (r >>= λ xs. Some (x ∷ xs))
with_front-more front x (Some others) = ap Some (append_assoc front (x ∷ []) others)
with_front-more front x None = refl
