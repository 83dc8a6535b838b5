-- What the bytes of a body begin with.
use Rattle.std.specs.Prelude.{ℕ, List, [], ◌∷◌, length, take, nat_lt, ◌==◌, if◌then◌else◌}
use Rattle.std.specs.Int.{w32, from_be_bytes}
use Rattle.grpc_frame.specs.declared.part.Part.{Part}
use Rattle.grpc_frame.specs.declared.part.Part.TheVariants.{Message, More, Compressed, TooLong}

-- behind a length: the message, where it is within the limit and whole
abbrev pub part_behind_length : ℕ → ℕ → List ℕ → Part
part_behind_length limit len bytes =
    if nat_lt limit len then TooLong len else if nat_lt (length bytes) len then More else Message (take len bytes)

-- behind the flag 0: a length of four bytes, most significant byte first
abbrev pub part_behind_flag : ℕ → List ℕ → Part
part_behind_flag limit (a ∷ b ∷ c ∷ d ∷ bytes) = part_behind_length limit (from_be_bytes w32 (a ∷ b ∷ c ∷ d ∷ [])) bytes
part_behind_flag limit _ = More

-- a flag other than 0 counts first, then a length above the limit
unfoldable pub part_of : ℕ → List ℕ → Part
part_of limit [] = More
part_of limit (flag ∷ bytes) = if flag == 0 then part_behind_flag limit bytes else Compressed flag
