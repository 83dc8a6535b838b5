-- What one word makes, read from the left.
use Rattle.std.specs.Prelude.{ℕ, ◌&&◌, if◌then◌else◌, List, [], ◌∷◌, Option, Some, None}
use Rattle.std.specs.List.{before_first, after_first}
use Rattle.command_line.specs.declared.commands.Command.{Command}
use Rattle.command_line.specs.Commands.{is_option, takes_bare_words}
use Rattle.command_line.specs.Given.{Given, named, bare, is_value}
use Rattle.command_line.specs.Steps.{is_equals, has_equals}

-- an option that waits for its value; one thing more; nothing
pub data Next : Type 0 where
  opens : List ℕ → Next
  gives : Given → Next
  refuses : Next

-- an option with what stands behind `=`
abbrev pub with_value : List ℕ → List ℕ → Next
with_value name [] = refuses
with_value name (first ∷ others) = gives (named name (first ∷ others))

abbrev pub whole_word : Command → List ℕ → Next
whole_word command word =
    if has_equals word && is_option command (before_first is_equals word) then with_value (before_first is_equals word) (after_first is_equals word)
    else if takes_bare_words command && is_value word then gives (bare word)
    else refuses

-- a word behind an option that waits for its value, or behind none
abbrev pub next_of : Command → Option (List ℕ) → List ℕ → Next
next_of command (Some name) word = if is_value word then gives (named name word) else refuses
next_of command None word = if is_option command word then opens word else whole_word command word
