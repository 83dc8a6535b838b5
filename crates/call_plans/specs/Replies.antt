-- Which replies a table gives to a command: a refusal, or those that the plans tell of it.
use Rattle.std.specs.Prelude.{◌≡◌, ℕ, ℤ, Bool, true, false}
use Rattle.table_model.specs.declared.commands.Command.{Command}
use Rattle.table_model.specs.declared.commands.Command.TheVariants as command
use Rattle.table_model.specs.declared.replies.Reply.{Reply}
use Rattle.table_model.specs.declared.replies.Reply.TheVariants as reply
use Rattle.table_model.specs.History.{History}
use Rattle.table_model.specs.Answer.{answer_of}
use Rattle.table_model.specs.Table.{reply_of}

abbrev pub is_creation : Reply → Bool
is_creation (reply.Created number moment) = true
is_creation (reply.Refused refusal) = true
is_creation _ = false

abbrev pub is_append : Reply → Bool
is_append (reply.Appended offset) = true
is_append (reply.Refused refusal) = true
is_append _ = false

abbrev pub is_flush : Reply → Bool
is_flush (reply.Flushed offset) = true
is_flush (reply.Refused refusal) = true
is_flush _ = false

abbrev pub is_end : Reply → Bool
is_end (reply.Finalised rows) = true
is_end (reply.Refused refusal) = true
is_end _ = false

abbrev pub is_commit : Reply → Bool
is_commit (reply.Committed moment) = true
is_commit (reply.NotCommitted errors) = true
is_commit (reply.Refused refusal) = true
is_commit _ = false

abbrev pub is_stream : Reply → Bool
is_stream (reply.Stream kind created committed) = true
is_stream (reply.Refused refusal) = true
is_stream _ = false

abbrev pub is_begin : Reply → Bool
is_begin (reply.Session number roots expires) = true
is_begin (reply.Refused refusal) = true
is_begin _ = false

abbrev pub is_split : Reply → Bool
is_split (reply.Children left right) = true
is_split reply.NoSplit = true
is_split (reply.Refused refusal) = true
is_split _ = false

-- the reply is one to the command
abbrev pub is_reply : Command → Reply → Bool
is_reply (command.Create kind) told = is_creation told
is_reply (command.Append on offset rows bytes) told = is_append told
is_reply (command.Flush on offset) told = is_flush told
is_reply (command.Finalise on) told = is_end told
is_reply (command.Commit streams) told = is_commit told
is_reply (command.Get on) told = is_stream told
is_reply (command.Session pred fields count snapshot) told = is_begin told
is_reply (command.Split session node) told = is_split told

abbrev pub RepliesInKind : Type 0
RepliesInKind = (columns : ℕ) (history : History) (caller : ℕ) (asked : Command) (now : ℤ) → is_reply asked (reply_of (answer_of columns history caller asked now)) ≡ true
