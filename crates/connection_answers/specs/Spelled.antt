-- How bytes are shown.
use Rattle.std.specs.Prelude.{ℕ, List, [], ◌∷◌, codes}
use Rattle.hex.specs.Hex.{encode_lower}

-- two digits a byte, and a sign where there is none
abbrev pub shown : List ℕ → List ℕ
shown [] = codes "-"
shown (byte ∷ bytes) = encode_lower (byte ∷ bytes)
