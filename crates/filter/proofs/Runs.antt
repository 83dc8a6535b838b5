-- The parser over several tokens.
use Rattle.std.proofs.Common.{◌≡◌, ℕ, suc, ◌+◌, ◌≤◌, List, [], ◌∷◌, ◌++◌, Option, Some, None, refl, sym, ◌∙◌, ap, subst, arith, le_trans}
use Rattle.column_types.specs.declared.column.Column.{Column}
use Rattle.filter.specs.declared.parser.Group.{Group}
use Rattle.filter.specs.declared.parser.Place.{Place}
use Rattle.filter.specs.declared.parser.State.{State}
use Rattle.filter.specs.declared.token.Token.{Token}
pub use Rattle.filter.specs.Machine.{depth_of}
use Rattle.filter.specs.Machine.{step, end}
use Rattle.filter.specs.Meaning.{Meaning}

-- a state by its parts
abbrev pub at : List Group → Option Meaning → Option Meaning → ℕ → ℕ → Place → State
at groups or and nots depth place =
    record { groups = groups; group = record { or = or; and = and; nots = nots; depth = depth }; place = place }

module _ (columns : List Column) (most : ℕ) where
  -- the tokens lead from a state to a state, and none of them deeper than allowed
  abbrev pub Runs : State → List Token → State → Type 0
  Runs from [] to = from ≡ to
  Runs from (token ∷ tokens) to = (next : State) × (step columns from token ≡ Some next) × (depth_of next ≤ most) × Runs next tokens to

  pub Runs-append : (from middle to : State) (xs ys : List Token) → Runs from xs middle → Runs middle ys to → Runs from (xs ++ ys) to
  Runs-append from middle to [] ys first second = subst (λ s. Runs s ys to) (sym first) second
  Runs-append from middle to (x ∷ xs) ys first second =
      (first.0, first.1, first.2, Runs-append first.0 middle to xs ys first.3 second)

  pub Runs-one : (from to : State) (token : Token) → step columns from token ≡ Some to → depth_of to ≤ most → Runs from (token ∷ []) to
  Runs-one from to token e h = (to, e, h, refl)

  pub Runs-then : (from middle to : State) (xs : List Token) (token : Token) → Runs from xs middle → step columns middle token ≡ Some to → depth_of to ≤ most → Runs from (xs ++ token ∷ []) to
  Runs-then from middle to xs token first e h = Runs-append from middle to xs (token ∷ []) first (Runs-one middle to token e h)

  -- where tokens lead is one state, and each front of them leads to one
  pub Runs-same : (tokens : List Token) (from a b : State) → Runs from tokens a → Runs from tokens b → a ≡ b
  Runs-same [] from a b first second = sym first ∙ second
  Runs-same (t ∷ tokens) from a b first second =
      let same : second.0 ≡ first.0 = some_same (sym second.1 ∙ first.1) in
      Runs-same tokens first.0 a b first.3 (subst (λ s. Runs s tokens b) same second.3)
    where
      some_same : {a b : State} → Some a ≡ Some b → a ≡ b
      some_same e = cc

  pub Runs-split : (xs ys : List Token) (from to : State) → Runs from (xs ++ ys) to → (middle : State) × Runs from xs middle × Runs middle ys to
  Runs-split [] ys from to run = (from, refl, run)
  Runs-split (x ∷ xs) ys from to run =
      let rest = Runs-split xs ys run.0 to run.3 in
      (rest.0, (run.0, run.1, run.2, rest.1), rest.2)

pub Runs-more : (columns : List Column) (most more : ℕ) (tokens : List Token) (from to : State) → most ≤ more → Runs columns most from tokens to → Runs columns more from tokens to
Runs-more columns most more [] from to above run = run
Runs-more columns most more (t ∷ tokens) from to above run =
    (run.0, run.1, le_trans run.2 above, Runs-more columns most more tokens run.0 to above run.3)
