-- Rules in front of others.
use Rattle.std.proofs.Common.{◌≡◌, Bool, true, false, List, [], ◌∷◌, ◌++◌, None, Some, Err, refl, ap, rules}
use Rattle.std.specs.Prelude.{Option, Result, if◌then◌else◌}
use Rattle.table_model.specs.declared.reasons.Why.{Why}
use Rattle.table_model.specs.declared.reasons.Refusal.{Refusal}
use Rattle.table_model.specs.Reasons.{refusal_of}
use Rattle.table_model.specs.Rules.{Rule, first_refusal, unless}

first_here : {A : Type 0} (b : Bool) (w why : Why) (others : Option Why) (rest : Result A Refusal)
    → (others ≡ Some why → rest ≡ Err (refusal_of why)) → (if b then Some w else others) ≡ Some why
    → (if b then Err (refusal_of w) else rest) ≡ Err (refusal_of why)
first_here true w why others rest later first = let same : w ≡ why = cc in ap (λ x. Err (refusal_of x)) same
first_here false w why others rest later first = later first

-- a rule among the first refuses, whatever comes behind
pub unless-first : {A : Type 0} (rules others : List Rule) (accepted : A) (why : Why)
    → first_refusal rules ≡ Some why → unless (rules ++ others) accepted ≡ Err (refusal_of why)
unless-first [] others accepted why first = absurd (cc)
unless-first (rule ∷ rules) others accepted why first =
    first_here rule.0 rule.1 why (first_refusal rules) (unless (rules ++ others) accepted) (unless-first rules others accepted why) first

none_here : {A : Type 0} (b : Bool) (w : Why) (others : Option Why) (rest final : Result A Refusal)
    → (others ≡ None → rest ≡ final) → (if b then Some w else others) ≡ None
    → (if b then Err (refusal_of w) else rest) ≡ final
none_here true w others rest final later none = absurd (cc)
none_here false w others rest final later none = later none

-- where none of the first holds, those behind decide
pub unless-none : {A : Type 0} (rules others : List Rule) (accepted : A)
    → first_refusal rules ≡ None → unless (rules ++ others) accepted ≡ unless others accepted
unless-none [] others accepted none = refl
unless-none (rule ∷ rules) others accepted none =
    none_here rule.0 rule.1 (first_refusal rules) (unless (rules ++ others) accepted) (unless others accepted) (unless-none rules others accepted) none
