-- What the texts of names obey.
use Rattle.std.specs.Prelude.{◌≡◌, ◌↔◌, ℕ, ◌<◌, ◌^◌, List, Some, IsTrue, decimal, codes}
use Rattle.resource_names.specs.declared.projects.ProjectName.{ProjectName}
use Rattle.resource_names.specs.declared.tables.TableName.{TableName}
use Rattle.resource_names.specs.declared.write_streams.WriteName.{WriteName}
use Rattle.resource_names.specs.declared.write_streams.StreamId.TheVariants as variant
use Rattle.resource_names.specs.declared.read_streams.ReadName.{ReadName}
use Rattle.resource_names.specs.declared.read_streams.ReadPlace.{ReadPlace}
use Rattle.resource_names.specs.Part.{is_part}
use Rattle.resource_names.specs.Project.{project_name_of, IsProject}
use Rattle.resource_names.specs.Table.{table_name_of, IsTable, HasParts}
use Rattle.resource_names.specs.Write.{write_name_of, IsWrite, write_text, default_text}
use Rattle.resource_names.specs.Read.{read_name_of, IsRead, place_of, IsPlace, read_text, session_id}

-- a text names what it spells, and nothing else
abbrev pub ProjectsAreSpelled : Type 0
ProjectsAreSpelled = (text : List ℕ) (name : ProjectName) → (project_name_of text ≡ Some name) ↔ IsProject text name

abbrev pub TablesAreSpelled : Type 0
TablesAreSpelled = (text : List ℕ) (name : TableName) → (table_name_of text ≡ Some name) ↔ IsTable text name

abbrev pub WritesAreSpelled : Type 0
WritesAreSpelled = (text : List ℕ) (name : WriteName) → (write_name_of text ≡ Some name) ↔ IsWrite text name

abbrev pub ReadsAreSpelled : Type 0
ReadsAreSpelled = (text : List ℕ) (name : ReadName) → (read_name_of text ≡ Some name) ↔ IsRead text name

abbrev pub PlacesAreSpelled : Type 0
PlacesAreSpelled = (name : ReadName) (place : ReadPlace) → (place_of name ≡ Some place) ↔ IsPlace name place

-- the texts of a table's streams read back
abbrev pub DefaultsReadBack : Type 0
DefaultsReadBack = (table : TableName) → HasParts table → write_name_of (default_text table) ≡ Some (record { table = table; stream = variant.Default })

abbrev pub NumbersReadBack : Type 0
NumbersReadBack = (table : TableName) (number : ℕ) → HasParts table → 0 < number → number < 2 ^ 32
    → write_name_of (write_text table number) ≡ Some (record { table = table; stream = variant.Number number })

-- the name that is written of a node
abbrev pub node_name : List ℕ → ReadPlace → ReadName
node_name project place = record { project = project; location = codes "local"; session = session_id place.table place.session; stream = decimal place.node }

pub record IsSmall (place : ReadPlace) : Type 0 where
  pub table : place.table < 2 ^ 32
  pub session_some : 0 < place.session
  pub session : place.session < 2 ^ 32
  pub node : place.node < 2 ^ 32

-- the text of a node reads back, and is that node
abbrev pub NodesReadBack : Type 0
NodesReadBack = (project : List ℕ) (place : ReadPlace) → IsTrue (is_part project) → IsSmall place
    → (read_name_of (read_text project place.table place.session place.node) ≡ Some (node_name project place)) × (place_of (node_name project place) ≡ Some place)
