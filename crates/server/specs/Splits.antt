-- Passes to all tables that are split, and that are joined.
use Rattle.std.specs.Prelude.{◌≡◌, ◌<◌, List, [], ◌∷◌}
use Rattle.turn_table.specs.View.{Splits, Joins}
use Rattle.open_tables.specs.Tables.{TableView}
use Rattle.open_tables.specs.Plans.{caller_in}

-- Each pass became two. Its number was below its bound.
abbrev pub AreSplit : (passes left right : List TableView) → Type 0
AreSplit [] [] [] = Unit {0}
AreSplit (pass ∷ passes) (l ∷ left) (r ∷ right) = Splits caller_in pass l r × (pass.number < pass.bound) × AreSplit passes left right
AreSplit _ _ _ = ⊥

-- two to each table became one
abbrev pub AreJoined : (keep give after : List TableView) → Type 0
AreJoined [] [] [] = Unit {0}
AreJoined (k ∷ keep) (g ∷ give) (a ∷ after) = Joins caller_in k g a × AreJoined keep give after
AreJoined _ _ _ = ⊥

-- the passes of these others were joined to the first, one after another
abbrev pub AreGathered : (first : List TableView) → (others : List (List TableView)) → (after : List TableView) → Type 0
AreGathered first [] after = after ≡ first
AreGathered first (other ∷ others) after = (between : List TableView) × AreJoined first other between × AreGathered between others after
