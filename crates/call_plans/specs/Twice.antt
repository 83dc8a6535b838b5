-- Names of one commit that name a write stream twice which no table can have.
use Rattle.std.specs.Prelude.{ℕ, Bool, true, false, ◌||◌, List, [], ◌∷◌, map}
use Rattle.std.specs.List.{list_any, filter, zip}
use Rattle.std.specs.Str.{bytes_eq}
use Rattle.resource_names.specs.declared.write_streams.StreamId.{StreamId}
use Rattle.resource_names.specs.declared.write_streams.StreamId.TheVariants as id
use Rattle.resource_names.specs.declared.write_streams.WriteName.{WriteName}

-- an id that no stream has
abbrev pub is_unknown : StreamId → Bool
is_unknown id.Default = false
is_unknown (id.Number number) = false
is_unknown id.Other = true

-- the texts of these names that have such an id
abbrev pub unknown_texts : (texts : List (List ℕ)) → List WriteName → List (List ℕ)
unknown_texts texts names = map (λ pair. pair.0) (filter (λ pair. is_unknown pair.1.stream) (zip texts names))

-- a text is there twice
unfoldable pub repeats : (texts : List (List ℕ)) → Bool
repeats [] = false
repeats (text ∷ texts) = list_any (bytes_eq text) texts || repeats texts

abbrev pub repeats_unknown : (texts : List (List ℕ)) → List WriteName → Bool
repeats_unknown texts names = repeats (unknown_texts texts names)
