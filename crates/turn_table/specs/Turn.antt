-- One step of a machine, and the histories that its steps lead to.
use Rattle.std.specs.Prelude.{◌≡◌, ℕ, ℤ, ◌≤ℤ◌, Option, None, Some, List, [], ◌∷◌, ◌++◌, Result, Ok, Err}
use Rattle.outside.specs.declared.wants.Memory.{Memory}
use Rattle.turn_table.specs.declared.machine.TheConstants.{LATEST_READING}

-- the history with an entry, if there is one
abbrev pub with_entry : {E : Type 0} → List E → Option E → List E
with_entry history None = history
with_entry history (Some entry) = history ++ entry ∷ []

-- an entry, if there is one, carries the caller
abbrev pub Carries : {E : Type 0} → (E → ℕ) → ℕ → Option E → Type 0
Carries caller_of caller None = Unit {0}
Carries caller_of caller (Some entry) = caller_of entry ≡ caller

-- The reply is one that is allowed, with an entry or none, by which the history grows; the entry carries the caller.
-- Want of memory keeps the history.
abbrev pub Steps : {E C R : Type 0} → (E → ℕ) → (List E → ℕ → C → ℤ → R → Option E → Type 0) → List E → List E → ℕ → C → ℤ → Result R Memory → Type 0
Steps {E} caller_of allows old new caller command now (Ok reply) =
    (added : Option E) × allows old caller command now reply added × Carries caller_of caller added × (new ≡ with_entry old added)
Steps caller_of allows old new caller command now (Err memory) = new ≡ old

-- An entry is added to a history by a reply that is allowed there, for a command that is taken and a reading of the
-- clock.
pub record IsAllowed {E C R : Type 0} (takes : C → Type 0) (allows : List E → ℕ → C → ℤ → R → Option E → Type 0) (before : List E) (entry : E) : Type 0 where
  pub caller : ℕ
  pub command : C
  pub now : ℤ
  pub reply : R
  pub taken : takes command
  pub in_time : now ≤ℤ LATEST_READING
  pub allowed : allows before caller command now reply (Some entry)

abbrev pub EachIsAllowed : {E C R : Type 0} → (C → Type 0) → (List E → ℕ → C → ℤ → R → Option E → Type 0) → List E → List E → Type 0
EachIsAllowed takes allows before [] = Unit {0}
EachIsAllowed takes allows before (entry ∷ more) = IsAllowed takes allows before entry × EachIsAllowed takes allows (before ++ entry ∷ []) more

-- The empty history is legal, and so is a legal one with an entry that is allowed there. Nothing else is.
abbrev pub IsLegal : {E C R : Type 0} → (C → Type 0) → (List E → ℕ → C → ℤ → R → Option E → Type 0) → List E → Type 0
IsLegal takes allows history = EachIsAllowed takes allows [] history
