-- The command lines of the program.
use Rattle.std.specs.Prelude.{◌≡◌, ℕ, List, [], ◌∷◌, Option, Some, None, IsTrue, codes}
use Rattle.table_spec.specs.Spec.{IsSpec}
use Rattle.table_spec.specs.declared.spec.TableSpec.{TableSpec}
use Rattle.command_line.specs.declared.commands.Command.{Command}
use Rattle.command_line.specs.declared.commands.Command.TheVariants as command
use Rattle.command_line.specs.declared.line.CommandLine.{CommandLine}
use Rattle.command_line.specs.declared.line.CommandLine.TheVariants as line
use Rattle.command_line.specs.Commands.{word_of}
use Rattle.command_line.specs.Given.{Given, bare, IsSpelled, values_of}
use Rattle.command_line.specs.Numbers.{number_of, is_address}
use Rattle.command_line.specs.Tables.{AreTables}

abbrev pub command_of : CommandLine → Command
command_of (line.Body table) = command.Body
command_of (line.Pipe tables) = command.Pipe
command_of (line.Serve listen workers connections tables) = command.Serve
command_of (line.Drill n) = command.Drill

-- the option is given exactly once, with a number from 1 to `most`
abbrev pub HasNumber : List ℕ → ℕ → List Given → ℕ → Type 0
HasNumber name most given n = (text : List ℕ) × (values_of name given ≡ text ∷ []) × (number_of 1 most text ≡ Some n)

-- `--listen` is given exactly once, with this address
abbrev pub HasAddress : List Given → List ℕ → Type 0
HasAddress given text = (values_of (codes "--listen") given ≡ text ∷ []) × IsTrue (is_address text)

abbrev pub HasTables : List Given → List TableSpec → Type 0
HasTables given tables = AreTables (values_of (codes "--table") given) tables

-- at most one table
abbrev pub HasTable : List Given → Option TableSpec → Type 0
HasTable given None = values_of (codes "--table") given ≡ []
HasTable given (Some table) = (text : List ℕ) × (values_of (codes "--table") given ≡ text ∷ []) × IsSpec text table

-- one bare word, a number
abbrev pub HasBareNumber : List Given → ℕ → Type 0
HasBareNumber given n = (text : List ℕ) × (given ≡ bare text ∷ []) × (number_of 1 10000 text ≡ Some n)

-- what was given is what the line takes
abbrev pub Takes : List Given → CommandLine → Type 0
Takes given (line.Body table) = HasTable given table
Takes given (line.Pipe tables) = HasTables given tables
Takes given (line.Serve listen workers connections tables) =
    HasAddress given listen × HasNumber (codes "--workers") 32 given workers × HasNumber (codes "--connections") 65536 given connections × HasTables given tables
Takes given (line.Drill n) = HasBareNumber given n

-- the same, of a line of this command
abbrev pub TakesAs : Command → List Given → CommandLine → Type 0
TakesAs command given line = (command_of line ≡ command) × Takes given line

-- the words behind this command make this line of it
abbrev pub IsBehind : Command → List (List ℕ) → CommandLine → Type 0
IsBehind command words line = (given : List Given) × IsSpelled command words given × TakesAs command given line

-- A command line: the word of the command, and behind it what the command takes.
abbrev pub IsLine : List (List ℕ) → CommandLine → Type 0
IsLine words line = (behind : List (List ℕ)) × (words ≡ word_of (command_of line) ∷ behind) × IsBehind (command_of line) behind line
