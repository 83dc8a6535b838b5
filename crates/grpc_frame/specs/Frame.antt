-- How a message stands in a body: "Length-Prefixed-Message" of gRPC over HTTP/2.
use Rattle.std.specs.Prelude.{ℕ, List, ◌∷◌, ◌++◌, length}
use Rattle.std.specs.List.{flat_map}
use Rattle.std.specs.Int.{w32, to_be_bytes}

-- the compressed flag 0, and a length in four bytes, most significant byte first
unfoldable pub prefix_of : ℕ → List ℕ
prefix_of len = 0 ∷ to_be_bytes w32 len

-- the prefix of its length, and the message
unfoldable pub frame : List ℕ → List ℕ
frame message = prefix_of (length message) ++ message

-- the messages one after another
abbrev pub framed : List (List ℕ) → List ℕ
framed messages = flat_map frame messages
