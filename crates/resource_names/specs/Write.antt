-- The name of a write stream: a table's name and /streams/S, or /_default for the default stream.
use Rattle.std.specs.Prelude.{◌≡◌, ◌⊎◌, ℕ, suc, ◌<◌, ◌^◌, ◌==◌, List, [], ◌∷◌, ◌++◌, take, drop, Option, Some, None, IsTrue, if◌then◌else◌, codes, decimal}
use Rattle.std.specs.Str.{bytes_eq}
use Rattle.resource_names.specs.declared.tables.TableName.{TableName}
use Rattle.resource_names.specs.declared.write_streams.StreamId.{StreamId}
use Rattle.resource_names.specs.declared.write_streams.StreamId.TheVariants as variant
use Rattle.resource_names.specs.declared.write_streams.WriteName.{WriteName}
use Rattle.resource_names.specs.Part.{is_part, is_named, parts_of}
use Rattle.resource_names.specs.Number.{number_of}
use Rattle.resource_names.specs.Table.{HasParts, table_in, table_text}

-- the texts of the streams that a table can have
abbrev pub write_text : TableName → ℕ → List ℕ
write_text table number = table_text table ++ codes "/streams/s" ++ decimal number

abbrev pub default_text : TableName → List ℕ
default_text table = table_text table ++ codes "/streams/_default"

-- The id of the default stream, or `s` and the number of a stream, from 1; any other names no stream.
abbrev pub IsId : List ℕ → StreamId → Type 0
IsId text variant.Default = text ≡ codes "_default"
IsId text (variant.Number n) = (0 < n) × (n < 2 ^ 32) × (text ≡ codes "s" ++ decimal n)
IsId text variant.Other = (text ≡ codes "_default" → ⊥) × ((n : ℕ) → 0 < n → n < 2 ^ 32 → text ≡ codes "s" ++ decimal n → ⊥)

-- `T/_default` is the same as `T/streams/_default`
abbrev pub IsBehind : List ℕ → (id : List ℕ) → Type 0
IsBehind text id = (text ≡ codes "/streams/" ++ id) ⊎ ((text ≡ codes "/_default") × (id ≡ codes "_default"))

-- the text is the name of this write stream
pub record IsWrite (text : List ℕ) (name : WriteName) : Type 0 where
  pub parts : HasParts name.table
  pub id : List ℕ
  pub part : IsTrue (is_part id)
  pub stream : IsId id name.stream
  pub behind : List ℕ
  pub ends : IsBehind behind id
  pub spelled : text ≡ table_text name.table ++ behind

abbrev pub numbered : Option ℕ → StreamId
numbered (Some (suc n)) = variant.Number (suc n)
numbered _ = variant.Other

abbrev pub id_behind : List ℕ → StreamId
id_behind (first ∷ number) = if first == 115 then numbered (number_of number) else variant.Other
id_behind [] = variant.Other

-- the stream of this id
unfoldable pub id_of : List ℕ → StreamId
id_of text = if bytes_eq text (codes "_default") then variant.Default else id_behind text

-- what stands behind the table's name
abbrev pub stream_in : List (List ℕ) → Option StreamId
stream_in (last ∷ []) = if bytes_eq last (codes "_default") then Some variant.Default else None
stream_in (streams ∷ id ∷ []) = if is_named (codes "streams") streams id then Some (id_of id) else None
stream_in _ = None

abbrev pub stream_of : Option TableName → Option StreamId → Option WriteName
stream_of (Some table) (Some stream) = Some (record { table = table; stream = stream })
stream_of (Some table) None = None
stream_of None stream = None

-- the write stream that words and parts name: a table's are six
abbrev pub write_in : List (List ℕ) → Option WriteName
write_in parts = stream_of (table_in (take 6 parts)) (stream_in (drop 6 parts))

-- the write stream that a text names
unfoldable pub write_name_of : List ℕ → Option WriteName
write_name_of text = write_in (parts_of text)
