-- The schema of some columns in JSON, without blanks: a record whose fields are the columns. 44 is a comma.
use Rattle.std.specs.Prelude.{ℕ, List, [], ◌∷◌, ◌++◌, codes}
use Rattle.column_types.specs.declared.column.Kind.{Kind}
use Rattle.column_types.specs.declared.column.Kind.TheVariants as kind
use Rattle.column_types.specs.declared.column.Mode.{Mode}
use Rattle.column_types.specs.declared.column.Mode.TheVariants as mode
use Rattle.column_types.specs.declared.column.Column.{Column}

abbrev pub kind_text : Kind → List ℕ
kind_text kind.Int64 = codes "\"long\""
kind_text kind.Bool = codes "\"boolean\""
kind_text kind.Str = codes "\"string\""
kind_text kind.Bytes = codes "\"bytes\""
kind_text kind.Date = codes "{\"type\":\"int\",\"logicalType\":\"date\"}"
kind_text kind.Timestamp = codes "{\"type\":\"long\",\"logicalType\":\"timestamp-micros\"}"

abbrev pub type_text : Mode → List ℕ → List ℕ
type_text mode.Required value = value
type_text mode.Nullable value = codes "[\"null\"," ++ value ++ codes "]"

abbrev pub field_text : Column → List ℕ
field_text column =
    codes "{\"name\":\"" ++ column.name ++ codes "\",\"type\":" ++ type_text column.mode (kind_text column.kind) ++ codes "}"

-- the fields behind the first, each behind a comma
abbrev pub more_fields : List Column → List ℕ
more_fields [] = []
more_fields (column ∷ columns) = 44 ∷ (field_text column ++ more_fields columns)

abbrev pub field_list : List Column → List ℕ
field_list [] = []
field_list (column ∷ columns) = field_text column ++ more_fields columns

abbrev pub schema_text_of : List Column → List ℕ
schema_text_of columns = codes "{\"type\":\"record\",\"name\":\"__root__\",\"fields\":[" ++ field_list columns ++ codes "]}"
