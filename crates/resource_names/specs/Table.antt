-- The name of a table: projects/P/datasets/D/tables/T.
use Rattle.std.specs.Prelude.{◌≡◌, ℕ, Bool, ◌&&◌, List, [], ◌∷◌, ◌++◌, Option, Some, None, is_some, IsTrue, if◌then◌else◌, codes}
use Rattle.resource_names.specs.declared.tables.TableName.{TableName}
use Rattle.resource_names.specs.Part.{is_part, is_named, parts_of}

abbrev pub table_text : TableName → List ℕ
table_text name = codes "projects/" ++ name.project ++ codes "/datasets/" ++ name.dataset ++ codes "/tables/" ++ name.table

pub record HasParts (name : TableName) : Type 0 where
  pub project : IsTrue (is_part name.project)
  pub dataset : IsTrue (is_part name.dataset)
  pub table : IsTrue (is_part name.table)

-- the text is the name of this table
pub record IsTable (text : List ℕ) (name : TableName) : Type 0 where
  pub parts : HasParts name
  pub spelled : text ≡ table_text name

-- the table that words and parts name
abbrev pub table_in : List (List ℕ) → Option TableName
table_in (projects ∷ project ∷ datasets ∷ dataset ∷ tables ∷ table ∷ []) =
    if is_named (codes "projects") projects project && is_named (codes "datasets") datasets dataset && is_named (codes "tables") tables table
    then Some (record { project = project; dataset = dataset; table = table })
    else None
table_in _ = None

-- the table that a text names
unfoldable pub table_name_of : List ℕ → Option TableName
table_name_of text = table_in (parts_of text)

abbrev pub is_table_name : List ℕ → Bool
is_table_name text = is_some (table_name_of text)
