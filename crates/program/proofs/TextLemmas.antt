-- A test for UTF-8 that is read off a result.
use Rattle.std.proofs.Common.{◌≡◌, Bool, true, false, ℕ, List, Ok, Err, refl, sym}
use Rattle.std.specs.Prelude.{Result, MatchResult, is_ok}
use Rattle.std.specs.Str.{IsUtf8, is_utf8}
use Rattle.std.proofs.lemmas.Str.{is_utf8-from_IsUtf8, IsUtf8-from_is_utf8}

false_where : (b : Bool) → (b ≡ true → ⊥) → false ≡ b
false_where true never = absurd (never refl)
false_where false never = refl

pub is_ok-is_utf8 : {T E : Type 0} (now : T → List ℕ) (Q : E → Type 0) (bytes : List ℕ) (r : Result T E)
    → MatchResult r (λ s. (now s ≡ bytes) × IsUtf8 bytes) (λ e. (IsUtf8 bytes → ⊥) × Q e) → is_ok r ≡ is_utf8 bytes
is_ok-is_utf8 now Q bytes (Ok s) read = sym (is_utf8-from_IsUtf8 bytes read.1)
is_ok-is_utf8 now Q bytes (Err e) read = false_where (is_utf8 bytes) (λ good. read.0 (IsUtf8-from_is_utf8 bytes good))
