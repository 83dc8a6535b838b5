-- Numbers in network byte order, the highest byte first.
use Rattle.std.specs.Prelude.{ℕ, ◌+◌, ◌*◌, List, [], ◌∷◌}
use Rattle.std.specs.Int.{bytes_high_first}

-- the number that is spelled by a number and the bytes after it
abbrev pub number_after : ℕ → List ℕ → ℕ
number_after n [] = n
number_after n (b ∷ bytes) = number_after (256 * n + b) bytes

-- the number that the bytes spell
abbrev pub number_of : List ℕ → ℕ
number_of bytes = number_after 0 bytes

-- a number's spelling in a count of bytes
abbrev pub bytes_of : (count n : ℕ) → List ℕ
bytes_of count n = bytes_high_first count n
