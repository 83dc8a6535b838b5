-- The workers of a door.
use Rattle.std.specs.Prelude.{◌≡◌, ◌<◌, ◌≤◌, false, List, [], ◌∷◌, All, length}
use Rattle.job_queue.specs.declared.hands.Known.{Known}
use Rattle.job_queue.specs.Queue.{both}
use Rattle.open_tables.specs.Tables.{TableView, OpenTable, AreTheirs}
use Rattle.conn_service.specs.Computed.{histories_of}
use Rattle.server.specs.Serving.{Differ}

-- the relation holds of each element and the one at its place
abbrev pub Pairs : {A B : Type 0} → (A → B → Type 0) → List A → List B → Type 0
Pairs P [] [] = Unit {0}
Pairs P (a ∷ olds) (b ∷ news) = P a b × Pairs P olds news
Pairs P _ _ = ⊥

-- the passes of any two differ for every table
abbrev pub TeamsDiffer : List (List TableView) → Type 0
TeamsDiffer [] = Unit {0}
TeamsDiffer (team ∷ teams) = All (λ other. Differ team other) teams × TeamsDiffer teams

-- Passes of another worker beside those of the first, for every table: they have other numbers, below the bound of the
-- first, and no greater bound. Those of the first aren't alone.
abbrev pub AreBeside : (first other : List TableView) → Type 0
AreBeside [] [] = Unit {0}
AreBeside (f ∷ first) (o ∷ other) = (f.alone ≡ false) × (f.number ≡ o.number → ⊥) × (o.number < f.bound) × (o.bound ≤ f.bound) × AreBeside first other
AreBeside _ _ = ⊥

-- The passes of a first worker and of others, split from the given ones.
pub record AreTeams (tables : List OpenTable) (passes first : List TableView) (others : List (List TableView)) : Type 0 where
  pub theirs : AreTheirs tables first
  pub begins : histories_of first ≡ histories_of passes
  pub each : All (λ other. AreTheirs tables other × (histories_of other ≡ histories_of passes) × AreBeside first other) others
  pub differ : TeamsDiffer others
  -- with one worker no pass is split
  pub one : length others ≡ 0 → first ≡ passes

-- what a hand knows to which others were joined, one after another
abbrev pub joined_hand : {T : Type 0} → Known T → List (Known T) → Known T
joined_hand v [] = v
joined_hand v (w ∷ ws) = joined_hand (both v w) ws
