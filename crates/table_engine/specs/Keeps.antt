-- What an engine keeps beside its entries follows from them.
use Rattle.std.specs.Prelude.{◌≡◌, ℕ, ◌∷◌, [], ◌++◌, length}
use Rattle.table_model.specs.declared.entries.Entry.{Entry}
use Rattle.table_model.specs.declared.replies.Answer.{Answer}
use Rattle.table_model.specs.declared.replies.Answer.TheVariants.{Accept, Same, Refuse}
use Rattle.table_model.specs.History.{moment_of, entries_by}
use Rattle.table_model.specs.Facts.{weight_of, facts_of}
use Rattle.table_model.specs.Look.{look_of}
use Rattle.table_model.specs.Accepted.{IsMade}
use Rattle.table_model.specs.Table.{Table, IsWithin}
use Rattle.write_streams.specs.Stands.{Stands}
use Rattle.read_sessions.specs.Stands.{Stands as ReadsStand}
use Rattle.read_sessions.specs.Snapshots.{Tells}
use Rattle.table_engine.specs.declared.engine.Engine.TheInside.{Inside}
use Rattle.table_engine.specs.Callers.{count_of}
use Rattle.table_engine.specs.Stored.{Stored}

pub record Keeps (e : Inside) : Type 0 where
  pub within : IsWithin e.schema e.entries.items
  pub stands : Stands e.book e.entries.items
  pub counts : (caller : ℕ) → count_of e.callers caller ≡ entries_by caller e.entries.items
  pub weighs : e.weight ≡ weight_of (length e.schema) e.entries.items
  pub latest_is : e.latest ≡ moment_of e.entries.items
  pub reads : ReadsStand e.sessions e.entries.items
  pub tells : Tells e.snapshots.list e.entries.items
  pub stored : Stored (length e.schema) e.groups e.waiting e.entries.items

abbrev pub table_in : Inside → Table
table_in e = record { columns = e.schema; entries = e.entries.items }

-- An entry may be added: the history before it makes it, and the limits hold with it.
pub record CanAdd (table : Table) (entry : Entry) : Type 0 where
  pub room : IsWithin table.columns (table.entries ++ entry ∷ [])
  pub made : IsMade (facts_of (length table.columns) table.entries entry.caller) (look_of table.entries) entry

-- The entry of an answer, if it has one, may be added.
abbrev pub CanTake : Table → Answer → Type 0
CanTake table (Accept entry told) = CanAdd table entry
CanTake table (Same told) = Unit {0}
CanTake table (Refuse refusal) = Unit {0}
