-- The blocks of what the server writes are short.
use Rattle.std.specs.Prelude.{ℕ, ◌+◌, ◌*◌, ◌≤◌, Bool, length}
use Rattle.hpack_blocks.specs.Spelling.{block_spelling}
use Rattle.grpc_meta.specs.declared.answers.Status.{Status}
use Rattle.grpc_meta.specs.Answer.{response_head, http_only, trailers}

-- trailers have at most three octets for each of their text, and 150
abbrev pub TrailersAreShort : Type 0
TrailersAreShort = (first : Bool) (status : Status) → length (block_spelling first (trailers status)) ≤ 3 * length status.text + 150

-- the head of an answer, and an answer of HTTP alone, have at most 150
abbrev pub HeadsAreShort : Type 0
HeadsAreShort = (first : Bool) → length (block_spelling first response_head) ≤ 150

abbrev pub HttpIsShort : Type 0
HttpIsShort = (first : Bool) (code : ℕ) → length (block_spelling first (http_only code)) ≤ 150
