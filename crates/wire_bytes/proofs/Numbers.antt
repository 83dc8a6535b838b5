-- Bytes that were read as a number are its spelling.
use Rattle.std.proofs.Common.{◌≡◌, ℕ, ◌<◌, ◌/◌, ◌%◌, List, [], ◌∷◌, length, get_or, arith}
use Rattle.wire_bytes.specs.Number.{number_of, bytes_of}

pub bytes_of-two : (bytes : List ℕ) → length bytes ≡ 2 → ((i : ℕ) → get_or bytes i 0 < 256) → bytes_of 2 (number_of bytes) ≡ bytes
bytes_of-two (a ∷ b ∷ []) len fits =
    let n = number_of (a ∷ b ∷ []) in
    let e0 : n / 256 % 256 ≡ a = omega (arith, fits 0, fits 1) in
    let e1 : n % 256 ≡ b = omega (arith, fits 1) in
    cc
bytes_of-two [] len fits = absurd (omega arith)
bytes_of-two (a ∷ []) len fits = absurd (omega arith)
bytes_of-two (a ∷ b ∷ c ∷ bytes) len fits = absurd (omega arith)

pub bytes_of-three : (bytes : List ℕ) → length bytes ≡ 3 → ((i : ℕ) → get_or bytes i 0 < 256) → bytes_of 3 (number_of bytes) ≡ bytes
bytes_of-three (a ∷ b ∷ c ∷ []) len fits =
    let n = number_of (a ∷ b ∷ c ∷ []) in
    let e0 : n / 65536 % 256 ≡ a = omega (arith, fits 0, fits 1, fits 2) in
    let e1 : n / 256 % 256 ≡ b = omega (arith, fits 1, fits 2) in
    let e2 : n % 256 ≡ c = omega (arith, fits 2) in
    cc
bytes_of-three [] len fits = absurd (omega arith)
bytes_of-three (a ∷ []) len fits = absurd (omega arith)
bytes_of-three (a ∷ b ∷ []) len fits = absurd (omega arith)
bytes_of-three (a ∷ b ∷ c ∷ d ∷ bytes) len fits = absurd (omega arith)

pub bytes_of-four : (bytes : List ℕ) → length bytes ≡ 4 → ((i : ℕ) → get_or bytes i 0 < 256) → bytes_of 4 (number_of bytes) ≡ bytes
bytes_of-four (a ∷ b ∷ c ∷ d ∷ []) len fits =
    let n = number_of (a ∷ b ∷ c ∷ d ∷ []) in
    let e0 : n / 16777216 % 256 ≡ a = omega (arith, fits 0, fits 1, fits 2, fits 3) in
    let e1 : n / 65536 % 256 ≡ b = omega (arith, fits 1, fits 2, fits 3) in
    let e2 : n / 256 % 256 ≡ c = omega (arith, fits 2, fits 3) in
    let e3 : n % 256 ≡ d = omega (arith, fits 3) in
    cc
bytes_of-four [] len fits = absurd (omega arith)
bytes_of-four (a ∷ []) len fits = absurd (omega arith)
bytes_of-four (a ∷ b ∷ []) len fits = absurd (omega arith)
bytes_of-four (a ∷ b ∷ c ∷ []) len fits = absurd (omega arith)
bytes_of-four (a ∷ b ∷ c ∷ d ∷ e ∷ bytes) len fits = absurd (omega arith)
