use Rattle.std.proofs.Common.{◌≡◌, ◌*◌, ◌≤◌, take}
use Rattle.hpack_codes.specs.Huffman.{code_bits}
use Rattle.hpack_codes.proofs.huffman.huffman_len.Given as goal

abbrev pub invariant-loop-octet : goal.invariant-loop-octet
invariant-loop-octet l = (l.bits ≡ code_bits (take l.octet-index l.bytes)) × (l.bits ≤ 30 * l.octet-index)
