-- Which rows a node has: those at its positions that a restriction keeps, as they are shown.
use Rattle.std.specs.Prelude.{ℕ, Bool, List, map, filter, take}
use Rattle.std.specs.List.{between}
use Rattle.split_tree.specs.declared.node.Interval.{Interval}
use Rattle.split_tree.specs.Nodes.{Nodes, interval_of}

-- of the visible rows those at the positions of an interval
abbrev pub rows_in : {X : Type 0} → Interval → List X → List X
rows_in interval rows = between interval.from interval.upto rows

-- those that are kept, in order, each as it is shown
abbrev pub read : {X Y : Type 0} → (X → Bool) → (X → Y) → List X → List Y
read keep shape rows = map shape (filter keep rows)

abbrev pub rows_of_node : {X Y : Type 0} → (X → Bool) → (X → Y) → Nodes → ℕ → List X → List Y
rows_of_node keep shape nodes number rows = read keep shape (rows_in (interval_of nodes number) rows)

-- the same over all rows that were visible when the session was made
abbrev pub rows_of_session : {X Y : Type 0} → (X → Bool) → (X → Y) → Nodes → List X → List Y
rows_of_session keep shape nodes rows = read keep shape (take nodes.at rows)
