-- The first of two options that is there.
use Rattle.std.proofs.Common.{◌≡◌, Option, None, Some, refl}
use Rattle.std.specs.Option.{option_or}

pub first-of : {A : Type 0} (a b : Option A) → option_or a b ≡ None → a ≡ None
first-of None b e = refl
first-of (Some x) b e = absurd (cc)

pub second-of : {A : Type 0} (a b : Option A) → option_or a b ≡ None → b ≡ None
second-of None b e = e
second-of (Some x) b e = absurd (cc)

pub or-nothing : {A : Type 0} (a : Option A) → option_or a None ≡ a
or-nothing None = refl
or-nothing (Some x) = refl
