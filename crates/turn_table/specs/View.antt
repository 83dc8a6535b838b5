-- What a pass to a turn table shows, and the histories at which its commands and its looks are answered.
use Rattle.std.specs.Prelude.{◌≡◌, ◌⊎◌, ℕ, ℤ, ◌+◌, ◌≤◌, max, ◌==◌, Bool, true, false, List, [], ◌++◌, count_by, Option, Result, Ok, Err}
use Rattle.atomic_table.specs.Seated.{TableId}
use Rattle.outside.specs.declared.wants.Memory.{Memory}
use Rattle.turn_table.specs.Turn.{with_entry, Carries}

-- A pass has a table, a number, a bound above it, whether it is the only one, the fixed part of its machine, and the
-- history that it has seen. Its own entries are those of that history that carry its number.
pub record View (E F : Type 0) : Type 0 where
  pub table : TableId
  pub number : ℕ
  pub bound : ℕ
  pub alone : Bool
  pub fixed : F
  pub seen : List E

-- What a turn shows: its table, and the fixed part of its machine.
pub record Home (F : Type 0) : Type 0 where
  pub table : TableId
  pub fixed : F

-- The pass is one of this turn's.
pub record IsOf {E F : Type 0} (turn : Home F) (pass : View E F) : Type 0 where
  pub table : pass.table ≡ turn.table
  pub same : pass.fixed ≡ turn.fixed

-- A history that begins with what the pass has seen. What stands behind that are other passes' entries, of which an
-- alone pass meets none.
pub record Reaches {E F : Type 0} (caller_of : E → ℕ) (view : View E F) (point : List E) : Type 0 where
  pub more : List E
  pub is : point ≡ view.seen ++ more
  pub others : count_by (λ entry. caller_of entry == view.number) more ≡ 0
  pub none_if_alone : view.alone ≡ true → more ≡ []

-- the pass behind a history
abbrev pub seeing : {E F : Type 0} → View E F → List E → View E F
seeing view history = record view { seen = history }

-- the first pass of a turn: it is alone, and has seen the empty history
abbrev pub first_pass : {E F : Type 0} → Home F → View E F
first_pass turn = record { table = turn.table; number = 0; bound = 1; alone = true; fixed = turn.fixed; seen = [] }

-- A command is answered at a history that the pass reaches, by a reply that is allowed there, and the pass has then seen
-- that history with the reply's entry, if there is one. At want of memory it has seen such a history too, and no entry
-- was added.
abbrev pub ActsBy : {E F C R : Type 0} → (E → ℕ) → (F → List E → ℕ → C → ℤ → R → Option E → Type 0) → View E F → C → ℤ → Result R Memory → View E F → Type 0
ActsBy {E} caller_of allows old command now (Ok reply) new =
    (point : List E) × (added : Option E) × Reaches caller_of old point × allows old.fixed point old.number command now reply added × Carries caller_of old.number added
    × (new ≡ seeing old (with_entry point added))
ActsBy {E} caller_of allows old command now (Err memory) new =
    (point : List E) × Reaches caller_of old point × (new ≡ seeing old point)

-- A look is one that is allowed at a history that the pass reaches, and the pass has then seen that history. At want of
-- memory it has seen such a history too.
abbrev pub LooksBy : {E F K L : Type 0} → (E → ℕ) → (F → List E → K → L → Type 0) → View E F → K → Result L Memory → View E F → Type 0
LooksBy {E} caller_of looks old key (Ok look) new =
    (point : List E) × Reaches caller_of old point × looks old.fixed point key look × (new ≡ seeing old point)
LooksBy {E} caller_of looks old key (Err memory) new =
    (point : List E) × Reaches caller_of old point × (new ≡ seeing old point)

-- A pass becomes two. The new one has a number that no entry carries and that is at least the old bound, and has seen what
-- the old one has. Neither is alone, and both have the bound behind that number.
pub record Splits {E F : Type 0} (caller_of : E → ℕ) (pass left right : View E F) : Type 0 where
  pub kept : left ≡ record pass { bound = right.number + 1; alone = false }
  pub new : right ≡ record pass { number = right.number; bound = right.number + 1; alone = false }
  pub above : pass.bound ≤ right.number
  pub unused : count_by (λ entry. caller_of entry == right.number) pass.seen ≡ 0

-- A pass has then seen the longer of two passes' histories, which goes on from the other, and has the greater bound. What
-- either has more are no entries of the other's own.
pub record Joins {E F : Type 0} (caller_of : E → ℕ) (keep give after : View E F) : Type 0 where
  pub is : after ≡ record keep { bound = max keep.bound give.bound; alone = false; seen = after.seen }
  pub longer : (after.seen ≡ keep.seen) ⊎ (after.seen ≡ give.seen)
  pub keeps : Reaches caller_of keep after.seen
  pub gives : Reaches caller_of give after.seen
