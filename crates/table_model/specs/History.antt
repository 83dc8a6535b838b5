-- A history is the list of the accepted commands of a table. It is counted here by its moments, its streams and
-- its callers.
use Rattle.std.specs.Prelude.{ℕ, ℤ, pos, Bool, true, false, ◌==◌, List, fold, count_by}
use Rattle.std.specs.Int.{int_max}
use Rattle.table_model.specs.declared.entries.Entry.{Entry}
use Rattle.table_model.specs.declared.entries.Change.{Change}
use Rattle.table_model.specs.declared.entries.Change.TheVariants as change

abbrev pub History : Type 0
History = List Entry

-- the greatest moment, or 0
abbrev pub moment_of : History → ℤ
moment_of history = fold (λ latest entry. int_max latest entry.moment) (pos 0) history

abbrev pub is_create : Change → Bool
is_create (change.Create number kind) = true
is_create _ = false

-- the streams that were created: they are numbered from 1 to this number
abbrev pub streams_of : History → ℕ
streams_of history = count_by (λ entry. is_create entry.change) history

abbrev pub is_session : Change → Bool
is_session (change.Session number at pred fields roots) = true
is_session _ = false

-- the read sessions that were begun: they are numbered from 1 to this number
abbrev pub sessions_of : History → ℕ
sessions_of history = count_by (λ entry. is_session entry.change) history

-- the entries of this caller
abbrev pub entries_by : ℕ → History → ℕ
entries_by caller history = count_by (λ entry. entry.caller == caller) history
