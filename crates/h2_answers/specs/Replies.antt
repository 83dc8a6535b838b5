-- The replies of a stream that wait: the bytes of each that aren't written yet (RFC 9113 section 8.1, a message's body).
use Rattle.std.specs.Prelude.{ℕ, ◌-◌, ◌<◌, nat_lt, List, [], ◌∷◌, ◌++◌, length, drop, if◌then◌else◌}

-- a reply of which a byte waits
abbrev pub IsUnwritten : List ℕ → Type 0
IsUnwritten reply = 0 < length reply

-- with a reply more, behind the others; one of no bytes has nothing to wait for
abbrev pub adding_reply : List (List ℕ) → List ℕ → List (List ℕ)
adding_reply replies [] = replies
adding_reply replies (byte ∷ bytes) = replies ++ (byte ∷ bytes) ∷ []

-- The first n bytes are written. A reply that is wholly written waits no more.
abbrev pub drop_bytes : ℕ → List (List ℕ) → List (List ℕ)
drop_bytes n [] = []
drop_bytes n (reply ∷ replies) = if nat_lt n (length reply) then drop n reply ∷ replies else drop_bytes (n - length reply) replies
