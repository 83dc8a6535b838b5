-- Readings in a row, and what is left behind them.
use Rattle.std.proofs.Common.{◌≡◌, ℕ, ◌+◌, ◌-◌, ◌<◌, Bool, true, false, cond, List, [], ◌∷◌, ◌++◌, length, drop, Option, Some, None, refl, sym, ap, ◌∙◌, length-append, arith}
use Rattle.std.proofs.Math.Seq.{drop-append_seam}
use Rattle.proto_fields.specs.Chain.{◌>>=◌}

abbrev pub some : {A : Type 0} → A → Option A
some x = Some x

pub some_is : {A : Type 0} (x y : A) → some x ≡ some y → x ≡ y
some_is x y e = cc

-- the value of a step that did not fail
pub bind_some : {A B : Type 0} (read : Option A) (f : A → Option B) (y : B) → (read >>= f) ≡ Some y → (x : A) × (read ≡ Some x) × (f x ≡ Some y)
bind_some (Some x) f y e = (x, refl, e)
bind_some None f y e = absurd cc

-- a test that did not fail
pub unless_some : {A : Type 0} (b : Bool) (x y : A) → cond b None (Some x) ≡ Some y → (b ≡ false) × (x ≡ y)
unless_some true x y e = absurd cc
unless_some false x y e = (refl, cc)

-- bytes that begin with some of a field, and end with the rest
pub record Behind (bytes rest : List ℕ) : Type 0 where
  pub front : List ℕ
  pub whole : bytes ≡ front ++ rest
  pub some : 0 < length front

pub Behind-first : (b : ℕ) (bytes : List ℕ) → Behind (b ∷ bytes) bytes
Behind-first b bytes = record { front = b ∷ []; whole = refl; some = omega arith }

pub Behind-more : (b : ℕ) (bytes rest : List ℕ) → Behind bytes rest → Behind (b ∷ bytes) rest
Behind-more b bytes rest h = record { front = b ∷ h.front; whole = ap (λ (x : List ℕ). b ∷ x) h.whole; some = omega arith }

-- what is left is an end of the bytes
pub Behind-drop : (bytes rest : List ℕ) → Behind bytes rest → (rest ≡ drop (length bytes - length rest) bytes) × (length rest < length bytes)
Behind-drop bytes rest h =
    let size : length bytes ≡ length h.front + length rest = ap length h.whole ∙ length-append h.front rest in
    let gone : length bytes - length rest ≡ length h.front = omega arith in
    (rw gone (sym (ap (drop (length h.front)) h.whole ∙ drop-append_seam h.front rest)), omega (arith, h.some))
