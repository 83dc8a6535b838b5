-- Which changes can be made to the streams and the sessions.
use Rattle.std.specs.Prelude.{◌≡◌, ℕ, ◌+◌, ◌≤◌, ◌<◌, ◌^◌, ℤ, Bool, true, false, List, [], ◌∷◌, ◌++◌, length}
use Rattle.table_model.specs.declared.entries.Entry.{Entry}
use Rattle.table_model.specs.declared.entries.Change.{Change}
use Rattle.table_model.specs.declared.entries.Change.TheVariants as change
use Rattle.table_model.specs.History.{History}
use Rattle.table_model.specs.Visible.{visible_of}
use Rattle.write_streams.specs.Book.{Book}
use Rattle.read_sessions.specs.Book.{Book as Sessions, AreRoots, CanSplit}
use Rattle.read_sessions.specs.declared.snapshots.Snapshot.{Snapshot}
use Rattle.read_sessions.specs.Snapshots.{IsNext, Tells}
use Rattle.table_engine.specs.Streams.{CanChange}

-- a change begins a session or splits a node
abbrev pub is_read : Change → Bool
is_read (change.Session number at pred fields roots) = true
is_read (change.Split session node left right) = true
is_read _ = false

-- The next session is begun with some number of roots, or a node that can be split is split.
abbrev pub CanRead : Sessions → Change → Type 0
CanRead sessions (change.Session number at pred fields roots) = (number ≡ length sessions + 1) × (length sessions + 1 < 2 ^ 32) × AreRoots at roots
CanRead sessions (change.Split session node left right) = CanSplit sessions session node
CanRead sessions _ = ⊥

abbrev pub CanMake : Book → Sessions → Change → Type 0
CanMake book sessions (change.Session number at pred fields roots) = CanRead sessions (change.Session number at pred fields roots)
CanMake book sessions (change.Split session node left right) = CanRead sessions (change.Split session node left right)
CanMake book sessions c = CanChange book c

-- a session that is begun is of rows that are visible
abbrev pub IsOfVisible : History → Change → Type 0
IsOfVisible history (change.Session number at pred fields roots) = at ≤ length (visible_of history)
IsOfVisible history _ = Unit {0}

-- Behind an entry of this moment, snapshots that tell of a history with `before` visible rows have become such that tell of
-- it with the entry, and with `visible` visible rows.
abbrev pub Notes : (old new : List Snapshot) (moment : ℤ) (before visible : ℕ) → Type 0
Notes old new moment before visible = (history : History) (entry : Entry) → Tells old history → IsNext history entry → entry.moment ≡ moment
    → before ≡ length (visible_of history) → visible ≡ length (visible_of (history ++ entry ∷ [])) → Tells new (history ++ entry ∷ [])
