-- A text is what its bytes spell.
use Rattle.std.proofs.Common.{◌≡◌, true, false, ℕ, List, Some, Ok, Err, refl}
use Rattle.std.specs.Prelude.{Bool}
use Rattle.std.specs.Str.{IsUtf8, is_utf8}
use Rattle.std.proofs.lemmas.Str.{is_utf8-from_IsUtf8, IsUtf8-from_is_utf8}
use Rattle.write_msgs.specs.declared.faults.MsgFault.TheVariants as fault
use Rattle.write_msgs.specs.Reading.{text_from}

false_where : (b : Bool) → (b ≡ true → ⊥) → b ≡ false
false_where true never = absurd (never refl)
false_where false never = refl

pub text_from-utf8 : (number : ℕ) (bytes : List ℕ) → IsUtf8 bytes → text_from number (Some bytes) ≡ Ok bytes
text_from-utf8 number bytes good = rw (is_utf8-from_IsUtf8 bytes good) refl

pub text_from-other : (number : ℕ) (bytes : List ℕ) → (IsUtf8 bytes → ⊥) → text_from number (Some bytes) ≡ Err (fault.BadUtf8 number)
text_from-other number bytes bad = rw (false_where (is_utf8 bytes) (λ good. bad (IsUtf8-from_is_utf8 bytes good))) refl
