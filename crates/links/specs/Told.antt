-- What an object outside tells of itself, where it tells it.
use Rattle.std.specs.Prelude.{◌≡◌, List, ◌++◌, Option, None, Some}

-- what is told, with these behind it
abbrev pub more : {X : Type 0} → Option (List X) → List X → Option (List X)
more None xs = None
more (Some told) xs = Some (told ++ xs)

-- what is told is this; nothing is asked of what isn't told
abbrev pub Tells : {X : Type 0} → Option X → X → Type 0
Tells None x = Unit {0}
Tells (Some told) x = told ≡ x

-- what was told goes on with these, or isn't told any more
abbrev pub GoesOn : {X : Type 0} → (before : Option (List X)) → List X → (now : Option (List X)) → Type 0
GoesOn before xs None = Unit {0}
GoesOn before xs (Some now) = more before xs ≡ Some now
