-- What the contracts of the readers cite: which words the kit's parser may see, what it is told of each command, and what a line takes of the values found.
use Rattle.std.specs.Prelude.{◌≡◌, ℕ, ◌==◌, Bool, true, ◌&&◌, ◌||◌, not, nat_lt, List, [], ◌∷◌, map, length, Option, Some, None, option_map, IsTrue, codes}
use Rattle.std.specs.List.{before_first, after_first, position_or_len}
use Rattle.std.specs.Option.{unwrap_or}
use Rattle.clap.specs.Words.{App, Rule, found_of, matched_of, new_app, new_rule, raw_values}
use Rattle.clap.specs.declared.builder.action.ArgAction.TheVariants.{Append}
use Rattle.clap.specs.declared.parser.matches.ArgMatches.{ArgMatches}
use Rattle.table_spec.specs.Spec.{IsSpec}
use Rattle.table_spec.specs.declared.spec.TableSpec.{TableSpec}
use Rattle.command_line.specs.declared.commands.Command.{Command}
use Rattle.command_line.specs.declared.commands.Command.TheVariants as command
use Rattle.command_line.specs.declared.line.CommandLine.{CommandLine}
use Rattle.command_line.specs.declared.line.CommandLine.TheVariants as line
use Rattle.command_line.specs.Commands.{is_option}
use Rattle.command_line.specs.Given.{Given, bare, is_value, IsSpelled, values_of}
use Rattle.command_line.specs.Line.{command_of}
use Rattle.command_line.specs.Numbers.{number_of, is_address}
use Rattle.command_line.specs.Tables.{AreTables}

abbrev pub is_equals : ℕ → Bool
is_equals b = b == 61

abbrev pub has_equals : List ℕ → Bool
has_equals word = nat_lt (position_or_len is_equals word) (length word)

-- an option of the command, with a value behind `=`
abbrev pub is_joined : Command → List ℕ → Bool
is_joined command word = has_equals word && (is_option command (before_first is_equals word) && not (length (after_first is_equals word) == 0))

-- a word that may stand behind the command: an option, with or without a value, or what can be a value
abbrev pub is_plain : Command → List ℕ → Bool
is_plain command word = is_option command word || (is_value word || is_joined command word)

-- `--id VALUE`, any number of times
abbrev pub option_rule : List ℕ → Rule
option_rule id = record (new_rule id) { long = Some id; action = Some Append }

-- bare words, any number of them
abbrev pub bare_rule : Rule
bare_rule = record (new_rule (codes "n")) { action = Some Append }

abbrev pub rules_of : Command → List Rule
rules_of command.Body = option_rule (codes "table") ∷ []
rules_of command.Pipe = option_rule (codes "table") ∷ []
rules_of command.Serve = option_rule (codes "table") ∷ option_rule (codes "listen") ∷ option_rule (codes "workers") ∷ option_rule (codes "connections") ∷ []
rules_of command.Drill = bare_rule ∷ []

-- a flat command with these arguments, without help and version
abbrev pub app_with : List Rule → App
app_with rules = record {
  top = record (new_app (codes "bqstored")).top {
    rules = rules;
    no_binary_name = true;
    disable_help_flag = true;
    disable_help_subcommand = true;
    disable_version_flag = true;
  };
  subs = [];
}

-- the values found of an id
abbrev pub texts_in : ArgMatches → List ℕ → List (List ℕ)
texts_in matches id = unwrap_or (option_map raw_values (matched_of (found_of matches) id)) []

-- the values are those that were given: of each id those of the option `--id`, or those of `n` the bare words
abbrev pub Shows : Command → List Given → (List ℕ → List (List ℕ)) → Type 0
Shows command.Drill given values = given ≡ map bare (values (codes "n"))
Shows _ given values = (id : List ℕ) → values id ≡ values_of (45 ∷ 45 ∷ id) given

abbrev pub IsShown : Command → List (List ℕ) → (List ℕ → List (List ℕ)) → Type 0
IsShown command words values = (given : List Given) × IsSpelled command words given × Shows command given values

-- one text, a number from 1 to `most`
abbrev pub IsOneNumber : ℕ → List (List ℕ) → ℕ → Type 0
IsOneNumber most texts n = (text : List ℕ) × (texts ≡ text ∷ []) × (number_of 1 most text ≡ Some n)

abbrev pub IsOneAddress : List (List ℕ) → List ℕ → Type 0
IsOneAddress texts text = (texts ≡ text ∷ []) × IsTrue (is_address text)

abbrev pub IsOneTable : List (List ℕ) → Option TableSpec → Type 0
IsOneTable texts None = texts ≡ []
IsOneTable texts (Some table) = (text : List ℕ) × (texts ≡ text ∷ []) × IsSpec text table

-- the values of the ids are what the line takes
abbrev pub TakesValues : (List ℕ → List (List ℕ)) → CommandLine → Type 0
TakesValues values (line.Body table) = IsOneTable (values (codes "table")) table
TakesValues values (line.Pipe tables) = AreTables (values (codes "table")) tables
TakesValues values (line.Serve listen workers connections tables) =
    IsOneAddress (values (codes "listen")) listen × IsOneNumber 32 (values (codes "workers")) workers
    × IsOneNumber 65536 (values (codes "connections")) connections × AreTables (values (codes "table")) tables
TakesValues values (line.Drill n) = IsOneNumber 10000 (values (codes "n")) n

-- the same, of a line of this command
abbrev pub TakesValuesAs : Command → (List ℕ → List (List ℕ)) → CommandLine → Type 0
TakesValuesAs command values line = (command_of line ≡ command) × TakesValues values line
