-- For the crate's own functions: a part whose message still lies in the bytes that it was read from.
use Rattle.std.specs.Prelude.{◌≡◌, ◌≤◌, ◌<◌, ◌+◌, ℕ, List, ◌++◌, length, take, drop}
use Rattle.grpc_frame.specs.declared.part.Part.{Part}
use Rattle.grpc_frame.specs.declared.part.Part.TheVariants as parts
use Rattle.grpc_frame.specs.declared.front.Front.{Front}
use Rattle.grpc_frame.specs.declared.front.Front.TheVariants.{Whole, Unfinished, More, Compressed, TooLong}
use Rattle.grpc_frame.specs.Frame.{prefix_of, frame}

abbrev pub front_part : List ℕ → Front → Part
front_part bytes (Whole len) = parts.Message (take len (drop 5 bytes))
front_part bytes (Unfinished len) = parts.More
front_part bytes More = parts.More
front_part bytes (Compressed flag) = parts.Compressed flag
front_part bytes (TooLong len) = parts.TooLong len

-- a message whose length was read is within the limit, and spelled in these bytes
abbrev pub IsSpelled : ℕ → List ℕ → Front → Type 0
IsSpelled limit bytes (Whole len) =
    (len ≤ limit) × (5 + len ≤ length bytes) × (bytes ≡ frame (take len (drop 5 bytes)) ++ drop (5 + len) bytes)
IsSpelled limit bytes (Unfinished len) =
    (len ≤ limit) × (5 ≤ length bytes) × (length bytes < 5 + len) × (bytes ≡ prefix_of len ++ drop 5 bytes)
IsSpelled limit bytes _ = Unit {0}
