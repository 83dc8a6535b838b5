-- The name of a project: projects/P.
use Rattle.std.specs.Prelude.{◌≡◌, ℕ, List, [], ◌∷◌, ◌++◌, Option, Some, None, IsTrue, if◌then◌else◌, codes}
use Rattle.resource_names.specs.declared.projects.ProjectName.{ProjectName}
use Rattle.resource_names.specs.Part.{is_part, is_named, parts_of}

abbrev pub project_text : ProjectName → List ℕ
project_text name = codes "projects/" ++ name.project

-- the text is the name of this project
pub record IsProject (text : List ℕ) (name : ProjectName) : Type 0 where
  pub project : IsTrue (is_part name.project)
  pub spelled : text ≡ project_text name

-- the project that words and parts name
abbrev pub project_in : List (List ℕ) → Option ProjectName
project_in (projects ∷ project ∷ []) = if is_named (codes "projects") projects project then Some (record { project = project }) else None
project_in _ = None

-- the project that a text names
unfoldable pub project_name_of : List ℕ → Option ProjectName
project_name_of text = project_in (parts_of text)
