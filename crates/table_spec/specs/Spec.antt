-- A SPEC: the name of a table, `=`, and its columns.
use Rattle.std.specs.Prelude.{◌≡◌, ℕ, ◌<◌, Bool, ◌==◌, List, length, Option, Some, None, Result, Ok, Err, IsTrue}
use Rattle.std.specs.List.{position_or_len, before_first, after_first}
use Rattle.column_types.specs.declared.column.Column.{Column}
use Rattle.column_types.specs.Schema.{IsSchema}
use Rattle.table_spec.specs.declared.spec.TableSpec.{TableSpec}
use Rattle.table_spec.specs.declared.spec.SpecFault.{SpecFault}
use Rattle.table_spec.specs.declared.spec.SpecFault.TheVariants as fault
use Rattle.resource_names.specs.Table.{is_table_name}
use Rattle.table_spec.specs.Columns.{columns_of}

abbrev pub is_equals : ℕ → Bool
is_equals b = b == 61

-- what a part is, or that it is none, unless memory was wanting
abbrev pub ReadsPart : {X Y : Type 0} → (X → Y) → Result X SpecFault → Option Y → Type 0
ReadsPart view (Ok x) part = part ≡ Some (view x)
ReadsPart view (Err fault.NoSpec) part = part ≡ None
ReadsPart view (Err fault.Memory) part = Unit {0}

-- The text has a `=`; the name stands before the first one, and the columns behind it.
pub record IsSpec (text : List ℕ) (spec : TableSpec) : Type 0 where
  pub parted : position_or_len is_equals text < length text
  pub name : spec.name ≡ before_first is_equals text
  pub named : IsTrue (is_table_name spec.name)
  pub columns : columns_of (after_first is_equals text) ≡ Some spec.schema
  pub schema : IsSchema spec.schema

-- columns that are a schema
abbrev pub ReadsSchema : List Column → Result (List Column) SpecFault → Type 0
ReadsSchema columns (Ok schema) = (schema ≡ columns) × IsSchema columns
ReadsSchema columns (Err fault.NoSpec) = IsSchema columns → ⊥
ReadsSchema columns (Err fault.Memory) = Unit {0}

-- what was read is the SPEC that the text is, or it is none, unless memory was wanting
abbrev pub ReadsSpec : List ℕ → Result TableSpec SpecFault → Type 0
ReadsSpec text (Ok spec) = IsSpec text spec
ReadsSpec text (Err fault.NoSpec) = (spec : TableSpec) → IsSpec text spec → ⊥
ReadsSpec text (Err fault.Memory) = Unit {0}
