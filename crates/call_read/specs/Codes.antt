-- Codes of stream errors that a message can carry.
use Rattle.std.specs.Prelude.{◌<◌, ◌^◌, All}
use Rattle.table_model.specs.declared.replies.Reply.{Reply}
use Rattle.table_model.specs.declared.replies.Reply.TheVariants as reply
use Rattle.table_model.specs.declared.replies.StreamError.{StreamError}

abbrev pub IsCode : StreamError → Type 0
IsCode error = error.code < 2 ^ 31

-- each stream error of the reply has one
abbrev pub HasCodes : Reply → Type 0
HasCodes (reply.NotCommitted errors) = All IsCode errors
HasCodes _ = Unit {0}
