-- A descriptor bound to the columns of a table: which field each column is read from, and why a descriptor can't be
-- bound.
use Rattle.std.specs.Prelude.{◌≡◌, ℕ, ◌≤◌, Bool, true, false, not, ◌&&◌, ◌||◌, ◌==◌, List, length, map, Option, Some, None, is_none, Result, Ok, Err, IsTrue, find}
use Rattle.std.specs.Option.{option_map, option_map_or}
use Rattle.column_types.specs.declared.column.Column.{Column}
use Rattle.column_types.specs.declared.column.Kind.{Kind}
use Rattle.column_types.specs.declared.column.Mode.{Mode}
use Rattle.column_types.specs.declared.schema.TheConstants.{MAX_COLUMNS}
use Rattle.column_types.specs.Name.{is_same_name}
use Rattle.column_types.specs.Row.{is_nullable}
use Rattle.row_descriptor.specs.declared.field.DescriptorField.{DescriptorField}
use Rattle.row_descriptor.specs.declared.bound.Source.{Source}
use Rattle.row_descriptor.specs.declared.bound.BoundColumn.{BoundColumn}
use Rattle.row_descriptor.specs.declared.faults.BindFault.{BindFault}
use Rattle.row_descriptor.specs.declared.faults.BindFault.TheVariants as fault
use Rattle.row_descriptor.specs.Distinct.{are_distinct}
use Rattle.row_descriptor.specs.Types.{accepts}

-- a column and a field have one name, without ASCII case
abbrev pub is_field_of : Column → DescriptorField → Bool
is_field_of column field = is_same_name column.name field.name

abbrev pub column_for : List Column → DescriptorField → Option Column
column_for columns field = find (λ column. is_field_of column field) columns

abbrev pub field_for : List DescriptorField → Column → Option DescriptorField
field_for fields column = find (is_field_of column) fields

-- no column has the field's name
abbrev pub is_extra : List Column → DescriptorField → Bool
is_extra columns field = is_none (column_for columns field)

-- the field is repeated, or its column isn't read from fields of its type
abbrev pub misfits : DescriptorField → Column → Bool
misfits field column = field.is_repeated || not (accepts column.kind field.field_type)

abbrev pub is_misfit : List Column → DescriptorField → Bool
is_misfit columns field = option_map_or (misfits field) (column_for columns field) false

-- the column is REQUIRED, and no field has its name
abbrev pub is_missing : List DescriptorField → Column → Bool
is_missing fields column = not (is_nullable column.mode) && is_none (field_for fields column)

abbrev pub source_of : DescriptorField → Source
source_of field = record { number = field.number; field_type = field.field_type }

abbrev pub bound_column : List DescriptorField → Column → BoundColumn
bound_column fields column = record { kind = column.kind; mode = column.mode; source = option_map source_of (field_for fields column) }

-- refused for what was found, or else the answer
abbrev pub refused_for : {A B : Type 0} → Option A → (A → BindFault) → Result B BindFault → Result B BindFault
refused_for (Some found) why answer = Err (why found)
refused_for None why answer = answer

-- The binding of each column, or the first of three refusals that has a cause: the first field that no column has, the
-- first that doesn't fit its column, the first REQUIRED column without a field.
unfoldable pub binding_of : List DescriptorField → List Column → Result (List BoundColumn) BindFault
binding_of fields columns =
    refused_for (find (is_extra columns) fields) (λ field. fault.ExtraField field.name) (
    refused_for (find (is_misfit columns) fields) (λ field. fault.TypeMismatch field.name) (
    refused_for (find (is_missing fields) columns) (λ column. fault.MissingRequired column.name) (
    Ok (map (bound_column fields) columns))))

-- two columns read from one field
abbrev pub share_number : Option Source → Option Source → Bool
share_number (Some a) (Some b) = a.number == b.number
share_number (Some a) None = false
share_number None other = false

abbrev pub have_one_field : BoundColumn → BoundColumn → Bool
have_one_field a b = share_number a.source b.source

-- What holds of each binding: it has at most 256 columns, no two of which are read from one field.
pub record IsBinding (columns : List BoundColumn) : Type 0 where
  pub most : length columns ≤ MAX_COLUMNS
  pub apart : IsTrue (are_distinct have_one_field columns)

abbrev pub kind_and_mode : BoundColumn → Kind × Mode
kind_and_mode bound = (bound.kind, bound.mode)

abbrev pub column_kind_and_mode : Column → Kind × Mode
column_kind_and_mode column = (column.kind, column.mode)

-- The columns of a binding are those of the table, by kind and mode.
abbrev pub IsBoundTo : List Column → List BoundColumn → Type 0
IsBoundTo columns binding = map kind_and_mode binding ≡ map column_kind_and_mode columns
