-- The commands of the program: the word of each, its options, and whether bare words stand behind it.
use Rattle.std.specs.Prelude.{ℕ, Bool, true, false, ◌||◌, if◌then◌else◌, List, Option, Some, None, codes}
use Rattle.std.specs.Str.{bytes_eq}
use Rattle.command_line.specs.declared.commands.Command.{Command}
use Rattle.command_line.specs.declared.commands.Command.TheVariants as command

abbrev pub word_of : Command → List ℕ
word_of command.Body = codes "body"
word_of command.Pipe = codes "pipe"
word_of command.Serve = codes "serve"
word_of command.Drill = codes "drill"

-- the command whose word this is
abbrev pub command_named : List ℕ → Option Command
command_named word =
    if bytes_eq word (codes "body") then Some command.Body
    else if bytes_eq word (codes "pipe") then Some command.Pipe
    else if bytes_eq word (codes "serve") then Some command.Serve
    else if bytes_eq word (codes "drill") then Some command.Drill
    else None

-- a name of one of the command's options, with its two hyphens
abbrev pub is_option : Command → List ℕ → Bool
is_option command.Body name = bytes_eq name (codes "--table")
is_option command.Pipe name = bytes_eq name (codes "--table")
is_option command.Serve name =
    bytes_eq name (codes "--table") || bytes_eq name (codes "--listen") || bytes_eq name (codes "--workers") || bytes_eq name (codes "--connections")
is_option command.Drill name = false

abbrev pub takes_bare_words : Command → Bool
takes_bare_words command.Drill = true
takes_bare_words _ = false
