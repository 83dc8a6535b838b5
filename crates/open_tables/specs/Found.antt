-- What a reply says of a stream that was asked for.
use Rattle.std.specs.Prelude.{Bool, true, false}
use Rattle.table_model.specs.declared.replies.Reply.{Reply}
use Rattle.table_model.specs.declared.replies.Reply.TheVariants as reply

-- the reply is a stream
abbrev pub is_found : Reply → Bool
is_found (reply.Stream kind created committed) = true
is_found _ = false
