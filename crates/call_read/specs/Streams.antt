-- The write streams of a commit, and what hinders it before its table is asked.
use Rattle.std.specs.Prelude.{◌≡◌, ℕ, Bool, true, false, List, map, Option, Some, None, if◌then◌else◌}
use Rattle.std.specs.List.{filter, zip}
use Rattle.resource_names.specs.declared.tables.TableName.{TableName}
use Rattle.resource_names.specs.declared.write_streams.WriteName.{WriteName}
use Rattle.resource_names.specs.Write.{write_name_of}
use Rattle.table_spec.specs.Columns.{all_of}
use Rattle.table_model.specs.declared.reasons.Why.{Why}
use Rattle.table_model.specs.declared.reasons.Why.TheVariants as why
use Rattle.table_model.specs.declared.streams.StreamRef.{StreamRef}
use Rattle.table_model.specs.declared.streams.StreamRef.TheVariants as stream
use Rattle.table_model.specs.Checks.{is_empty}
use Rattle.call_plans.specs.Names.{ref_of}
use Rattle.call_plans.specs.Committing.{has_other_table}
use Rattle.call_plans.specs.Twice.{repeats}
use Rattle.call_read.specs.declared.streams.Streams.{Streams}

abbrev pub refs_of : List WriteName → List StreamRef
refs_of names = map (λ name. ref_of name.stream) names

-- These are the write streams that the texts name, and this says whether one is another table's.
pub record AreNamed (table : TableName) (texts : List (List ℕ)) (refs : List StreamRef) (other : Bool) : Type 0 where
  pub names : List WriteName
  pub read : all_of (map write_name_of texts) ≡ Some names
  pub refs_are : refs ≡ refs_of names
  pub other_is : other ≡ has_other_table table names

-- what was read of the texts; nothing is where one of them is no name
abbrev pub ReadsStreams : TableName → (texts : List (List ℕ)) → Option Streams → Type 0
ReadsStreams table texts None = all_of (map write_name_of texts) ≡ None
ReadsStreams table texts (Some streams) = AreNamed table texts streams.refs streams.has_other_table

abbrev pub is_other : StreamRef → Bool
is_other stream.Default = false
is_other (stream.Number number) = false
is_other stream.Other = true

-- the texts of the streams that no table has
abbrev pub unknown_among : (texts : List (List ℕ)) → List StreamRef → List (List ℕ)
unknown_among texts refs = map (λ pair. pair.0) (filter (λ pair. is_other pair.1) (zip texts refs))

-- the first cause that holds
abbrev pub hindrance : (texts : List (List ℕ)) → List StreamRef → (other : Bool) → Option Why
hindrance texts refs other =
    if is_empty refs then Some why.NoStreams
    else if other then Some why.OtherTable
    else if repeats (unknown_among texts refs) then Some why.Twice
    else None
