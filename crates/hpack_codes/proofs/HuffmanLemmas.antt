-- Octets read one after the other, as the decoder's loop does.
use Rattle.std.proofs.Common.{◌≡◌, ℕ, List, [], ◌∷◌, ◌++◌, drop, Ok, Err, refl, sym, ap, append_assoc}
use Rattle.hpack_codes.specs.Huffman.{Decoded, with_octet, octets_from, huffman_of}
use Rattle.hpack_codes.specs.Bits.{low_bits, bits_of}

-- what was read before, and what is still read
abbrev pub with_front : List ℕ → Decoded → Decoded
with_front front (Ok octets) = Ok (front ++ octets)
with_front front (Err fault) = Err fault

pub with_front-octet : (front : List ℕ) (s : ℕ) (read : Decoded) → with_front front (with_octet s read) ≡ with_front (front ++ s ∷ []) read
with_front-octet front s (Ok octets) = ap Ok (sym (append_assoc front (s ∷ []) octets))
with_front-octet front s (Err fault) = refl

with_front-nil : (read : Decoded) → with_front [] read ≡ read
with_front-nil (Ok octets) = refl
with_front-nil (Err fault) = refl

pub starts : (bytes : List ℕ) → with_front [] (octets_from 0 0 (low_bits 0 0 ++ bits_of (drop 0 bytes))) ≡ huffman_of bytes
unfolding low_bits
starts bytes = with_front-nil (octets_from 0 0 (bits_of bytes))
