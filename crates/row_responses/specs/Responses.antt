-- The responses of a ReadRows call. The columns are the chosen ones, and each row has a cell for each of them.
use Rattle.std.specs.Prelude.{◌≡◌, ◌⊎◌, ℕ, ◌<◌, ◌≤◌, pos, min, max, Bool, true, false, List, [], ◌∷◌, length, map, Some, None, if◌then◌else◌}
use Rattle.std.specs.List.{flat_map, AllByRecursion}
use Rattle.column_types.specs.declared.column.Column.{Column}
use Rattle.column_types.specs.declared.cell.Cell.{Cell}
use Rattle.column_types.specs.Fields.{projected}
use Rattle.row_groups.specs.Places.{joined}
use Rattle.avro_rows.specs.Datum.{datum_of}
use Rattle.avro_rows.specs.SchemaText.{schema_text_of}
use Rattle.read_msgs.specs.declared.rows.AvroSchema.{AvroSchema}
use Rattle.read_msgs.specs.RowsBytes.{read_rows_response_bytes}
use Rattle.row_responses.specs.declared.limits.TheConstants.{MAX_RESPONSE_ROWS, MAX_RESPONSE_BYTES}
use Rattle.row_responses.specs.Cut.{fitting, cut}

-- the data of rows, one behind another
abbrev pub data_of : List Column → List (List Cell) → List ℕ
data_of columns rows = flat_map (datum_of columns) rows

abbrev pub size_of : List Column → List Cell → ℕ
size_of columns row = length (datum_of columns row)

-- how many rows the next response takes: those that are within the bytes, but one at the least and 1,024 at the most
abbrev pub taken : List Column → List (List Cell) → ℕ
taken columns rows = max 1 (min MAX_RESPONSE_ROWS (fitting (size_of columns) rows MAX_RESPONSE_BYTES))

abbrev pub schema_of : List Column → AvroSchema
schema_of columns = record { schema = schema_text_of columns }

-- the response of some rows, with their schema or without
abbrev pub response : List Column → Bool → List (List Cell) → List ℕ
response columns has_schema rows = read_rows_response_bytes (record {
  avro_rows = Some (record { serialized_binary_rows = data_of columns rows });
  row_count = pos (length rows);
  avro_schema = if has_schema then Some (schema_of columns) else None;
})

-- a response for each part, and the schema in the first one or in none
abbrev pub responses_from : List Column → Bool → List (List (List Cell)) → List (List ℕ)
responses_from columns has_schema [] = []
responses_from columns has_schema (part ∷ parts) = response columns has_schema part ∷ map (response columns false) parts

abbrev pub responses_left : List Column → Bool → List (List Cell) → List (List ℕ)
responses_left columns has_schema rows = responses_from columns has_schema (cut (taken columns) rows)

-- the responses of a call that is to give these rows, each with the columns of these numbers alone
abbrev pub responses_of : List Column → List ℕ → List (List Cell) → List (List ℕ)
responses_of columns fields rows = responses_left (projected fields columns) true rows

-- What a response may hold.
pub record IsPart (columns : List Column) (part : List (List Cell)) : Type 0 where
  pub some : 0 < length part
  pub few : length part ≤ MAX_RESPONSE_ROWS
  pub small : (length (data_of columns part) ≤ MAX_RESPONSE_BYTES) ⊎ (length part ≡ 1)

-- Messages give these rows, each once and in order, and the first one alone has the schema.
pub record Give (columns : List Column) (rows : List (List Cell)) (messages : List (List ℕ)) : Type 0 where
  pub parts : List (List (List Cell))
  pub whole : joined parts ≡ rows
  pub each : AllByRecursion (IsPart columns) parts
  pub are : messages ≡ responses_from columns true parts
