-- What was told goes on, step by step.
use Rattle.std.proofs.Common.{◌≡◌, List, [], ◌++◌, Option, None, Some, refl, sym, ap, ◌∙◌, append_assoc}
use Rattle.std.proofs.lemmas.List.{append-nil}
use Rattle.links.specs.Told.{more, Tells, GoesOn}

pub more-nil : {X : Type 0} (told : Option (List X)) → more told [] ≡ told
more-nil None = refl
more-nil (Some told) = ap Some (append-nil told)

pub more-more : {X : Type 0} (told : Option (List X)) (xs ys : List X) → more (more told xs) ys ≡ more told (xs ++ ys)
more-more None xs ys = refl
more-more (Some told) xs ys = ap Some (append_assoc told xs ys)

pub GoesOn-nil : {X : Type 0} (told : Option (List X)) → GoesOn told [] told
GoesOn-nil None = tt
GoesOn-nil (Some told) = ap Some (append-nil told)

pub GoesOn-then : {X : Type 0} (before between now : Option (List X)) (xs ys : List X)
    → GoesOn before xs between → GoesOn between ys now → GoesOn before (xs ++ ys) now
GoesOn-then before between None xs ys first then = tt
GoesOn-then before None (Some now) xs ys first then = absurd cc
GoesOn-then before (Some between) (Some now) xs ys first then =
    sym (more-more before xs ys) ∙ ap (λ told. more told ys) first ∙ then

-- what told this before tells this and what is added
pub Tells-more : {X : Type 0} (told : Option (List X)) (xs ys : List X) → Tells told xs → Tells (more told ys) (xs ++ ys)
Tells-more None xs ys is = tt
Tells-more (Some told) xs ys is = ap (λ zs. zs ++ ys) is
