-- The replies that wait on a stream: from being given until they are wholly written.
use Rattle.std.specs.Prelude.{ℕ, ◌==◌, List, [], ◌∷◌, length, if◌then◌else◌}
use Rattle.h2_answers.specs.Replies.{adding_reply, drop_bytes}
use Rattle.h2_record.specs.Record.{Record, Given, Reply}
use Rattle.h2_record.specs.Windows.{data_out}
use Rattle.h2_record.specs.Resets.{is_live}

-- the replies that were given on a stream, in their order; one of no bytes waits for nothing
abbrev pub replies_of : Record → ℕ → List (List ℕ)
replies_of [] id = []
replies_of (Given stream (Reply bytes) ∷ r) id = if id == stream then adding_reply (replies_of r id) bytes else replies_of r id
replies_of (_ ∷ r) id = replies_of r id

-- those of which a byte waits, without the bytes that went; none waits on a stream that lives no more
abbrev pub unwritten_of : Record → ℕ → List (List ℕ)
unwritten_of r id = if is_live r id then drop_bytes (data_out r id) (replies_of r id) else []

abbrev pub waiting_of : Record → ℕ → ℕ
waiting_of r id = length (unwritten_of r id)
