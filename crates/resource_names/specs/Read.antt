-- The name of a read stream, projects/P/locations/L/sessions/S/streams/N, and the node of a session that it can be.
use Rattle.std.specs.Prelude.{◌≡◌, ℕ, suc, ◌<◌, ◌^◌, ◌&&◌, ◌==◌, Bool, List, [], ◌∷◌, ◌++◌, Option, Some, None, IsTrue, if◌then◌else◌, codes, decimal}
use Rattle.std.specs.List.{before_first, after_first}
use Rattle.std.specs.Str.{bytes_eq}
use Rattle.resource_names.specs.declared.read_streams.ReadName.{ReadName}
use Rattle.resource_names.specs.declared.read_streams.ReadPlace.{ReadPlace}
use Rattle.resource_names.specs.Part.{is_part, is_named, parts_of}
use Rattle.resource_names.specs.Number.{number_of}

abbrev pub name_text : ReadName → List ℕ
name_text name = codes "projects/" ++ name.project ++ codes "/locations/" ++ name.location ++ codes "/sessions/" ++ name.session ++ codes "/streams/" ++ name.stream

-- the text is the name of this read stream
pub record IsRead (text : List ℕ) (name : ReadName) : Type 0 where
  pub project : IsTrue (is_part name.project)
  pub location : IsTrue (is_part name.location)
  pub session : IsTrue (is_part name.session)
  pub stream : IsTrue (is_part name.stream)
  pub spelled : text ≡ name_text name

-- the read stream that words and parts name
abbrev pub read_in : List (List ℕ) → Option ReadName
read_in (projects ∷ project ∷ locations ∷ location ∷ sessions ∷ session ∷ streams ∷ stream ∷ []) =
    if is_named (codes "projects") projects project && is_named (codes "locations") locations location && is_named (codes "sessions") sessions session && is_named (codes "streams") streams stream
    then Some (record { project = project; location = location; session = session; stream = stream })
    else None
read_in _ = None

-- the read stream that a text names
unfoldable pub read_name_of : List ℕ → Option ReadName
read_name_of text = read_in (parts_of text)

-- the id of a session: `t`, the place of its table, `-` and its number
abbrev pub session_id : ℕ → ℕ → List ℕ
session_id table session = codes "t" ++ decimal table ++ codes "-" ++ decimal session

-- the name of a session
abbrev pub session_text : List ℕ → ℕ → ℕ → List ℕ
session_text project table session = codes "projects/" ++ project ++ codes "/locations/local/sessions/" ++ session_id table session

-- the name of a node of it
abbrev pub read_text : List ℕ → ℕ → ℕ → ℕ → List ℕ
read_text project table session node = session_text project table session ++ codes "/streams/" ++ decimal node

-- A name can be this node whatever its project is: the location is `local`, tables and nodes count from 0, sessions from 1.
pub record IsPlace (name : ReadName) (place : ReadPlace) : Type 0 where
  pub location : name.location ≡ codes "local"
  pub session : name.session ≡ session_id place.table place.session
  pub stream : name.stream ≡ decimal place.node
  pub table_small : place.table < 2 ^ 32
  pub session_some : 0 < place.session
  pub session_small : place.session < 2 ^ 32
  pub node_small : place.node < 2 ^ 32

abbrev pub is_dash : ℕ → Bool
is_dash b = b == 45

abbrev pub place_by : (table session node : Option ℕ) → Option ReadPlace
place_by (Some table) (Some (suc session)) (Some node) = Some (record { table = table; session = suc session; node = node })
place_by _ _ _ = None

abbrev pub place_behind : (numbers stream : List ℕ) → Option ReadPlace
place_behind numbers stream = place_by (number_of (before_first is_dash numbers)) (number_of (after_first is_dash numbers)) (number_of stream)

abbrev pub place_in : (session stream : List ℕ) → Option ReadPlace
place_in (first ∷ numbers) stream = if first == 116 then place_behind numbers stream else None
place_in [] stream = None

-- the node that a name can be
unfoldable pub place_of : ReadName → Option ReadPlace
place_of name = if bytes_eq name.location (codes "local") then place_in name.session name.stream else None
