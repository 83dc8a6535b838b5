-- A change is one of the sessions or one of the streams.
use Rattle.std.proofs.Common.{◌≡◌, ℕ, ◌+◌, ◌<◌, ◌≤◌, true, false, List, [], ◌∷◌, ◌++◌, length, sym, ◌∙◌, arith}
use Rattle.table_model.specs.declared.entries.Change.{Change}
use Rattle.table_model.specs.declared.entries.Change.TheVariants as change
use Rattle.write_streams.specs.Book.{Book}
use Rattle.read_sessions.specs.Book.{Book as Sessions}
use Rattle.read_sessions.specs.Stands.{IsOther}
use Rattle.table_engine.specs.Streams.{CanChange}
use Rattle.table_engine.specs.Changes.{is_read, CanRead, CanMake}

pub read_of : (book : Book) (sessions : Sessions) (c : Change) → is_read c ≡ true → CanMake book sessions c → CanRead sessions c
read_of book sessions (change.Session number at pred fields roots) is can = can
read_of book sessions (change.Split session node left right) is can = can
read_of book sessions (change.Create number kind) is can = absurd (cc)
read_of book sessions (change.Append on offset rows bytes) is can = absurd (cc)
read_of book sessions (change.Flush on upto) is can = absurd (cc)
read_of book sessions (change.Finalise on) is can = absurd (cc)
read_of book sessions (change.Commit streams) is can = absurd (cc)

pub change_of : (book : Book) (sessions : Sessions) (c : Change) → is_read c ≡ false → CanMake book sessions c → CanChange book c
change_of book sessions (change.Session number at pred fields roots) is can = absurd (cc)
change_of book sessions (change.Split session node left right) is can = absurd (cc)
change_of book sessions (change.Create number kind) is can = can
change_of book sessions (change.Append on offset rows bytes) is can = can
change_of book sessions (change.Flush on upto) is can = can
change_of book sessions (change.Finalise on) is can = can
change_of book sessions (change.Commit streams) is can = can

pub other_of : (c : Change) → is_read c ≡ false → IsOther c
other_of (change.Session number at pred fields roots) is = absurd (cc)
other_of (change.Split session node left right) is = absurd (cc)
other_of (change.Create number kind) is = tt
other_of (change.Append on offset rows bytes) is = tt
other_of (change.Flush on upto) is = tt
other_of (change.Finalise on) is = tt
other_of (change.Commit streams) is = tt
