-- What stands behind a command, in the order of the words: options with their values, and bare words.
use Rattle.std.specs.Prelude.{◌≡◌, ℕ, Bool, true, false, not, ◌==◌, if◌then◌else◌, List, [], ◌∷◌, ◌++◌, IsTrue}
use Rattle.std.specs.Str.{bytes_eq}
use Rattle.std.proofs.Common.{◌⊎◌}
use Rattle.command_line.specs.declared.commands.Command.{Command}
use Rattle.command_line.specs.Commands.{is_option, takes_bare_words}

-- an option by its name, with its value; a bare word
pub data Given : Type 0 where
  named : List ℕ → List ℕ → Given
  bare : List ℕ → Given

-- A value behind `--name`, or a bare word: at least one byte, of which the first is no hyphen (45).
abbrev pub is_value : List ℕ → Bool
is_value [] = false
is_value (first ∷ others) = not (first == 45)

-- `--name value` or `--name=value` (`=` is 61), in front of the rest
abbrev pub IsNamed : List ℕ → List ℕ → List (List ℕ) → List (List ℕ) → Type 0
IsNamed name value words rest =
    ((words ≡ name ∷ value ∷ rest) × IsTrue (is_value value)) ⊎ (words ≡ (name ++ 61 ∷ value) ∷ rest)

abbrev pub is_empty : List ℕ → Bool
is_empty [] = true
is_empty (first ∷ others) = false

-- One thing given stands in front of the rest.
abbrev pub IsNext : Command → Given → List (List ℕ) → List (List ℕ) → Type 0
IsNext command (named name value) words rest = IsTrue (is_option command name) × IsTrue (not (is_empty value)) × IsNamed name value words rest
IsNext command (bare word) words rest = IsTrue (takes_bare_words command) × IsTrue (is_value word) × (words ≡ word ∷ rest)

-- The words are what was given, one after another.
abbrev pub IsSpelled : Command → List (List ℕ) → List Given → Type 0
IsSpelled command words [] = words ≡ []
IsSpelled command words (one ∷ others) = (rest : List (List ℕ)) × IsNext command one words rest × IsSpelled command rest others

-- the values given to the option of this name
abbrev pub values_of : List ℕ → List Given → List (List ℕ)
values_of name [] = []
values_of name (named of value ∷ others) = if bytes_eq of name then value ∷ values_of name others else values_of name others
values_of name (bare word ∷ others) = values_of name others
