-- Where an append may stand: at the end of its stream.
use Rattle.std.specs.Prelude.{ℕ, ℤ, pos, Bool, false, Option, None, Some, List, [], ◌∷◌, int_lt}
use Rattle.table_model.specs.declared.reasons.Why.TheVariants as why
use Rattle.table_model.specs.Rules.{Rule}

abbrev pub offset_is : (ℤ → Bool) → Option ℤ → Bool
offset_is test None = false
offset_is test (Some offset) = test offset

-- the refusals of an append at an offset, in a stream with this end
abbrev pub offset_rules : ℕ → Option ℤ → List Rule
offset_rules end offset =
    (offset_is (λ z. int_lt z (pos 0)) offset, why.NegativeOffset)
    ∷ (offset_is (λ z. int_lt z (pos end)) offset, why.AlreadyWritten)
    ∷ (offset_is (λ z. int_lt (pos end) z) offset, why.PastEnd)
    ∷ []
