use Rattle.std.proofs.Common.{◌≡◌, length}
use Rattle.hpack_codes.specs.Reader.{left_of, IsSound}
use Rattle.hpack_codes.specs.Huffman.{octets_from, huffman_of}
use Rattle.hpack_codes.proofs.HuffmanLemmas.{with_front}
use Rattle.hpack_codes.proofs.huffman.decoded.Given as goal

abbrev pub invariant-loop-octet : goal.invariant-loop-octet
invariant-loop-octet l = IsSound l.reader l.bytes × (with_front l.octets.items (octets_from 0 0 (left_of l.reader l.bytes)) ≡ huffman_of l.bytes)

abbrev pub decreases-loop-octet : goal.decreases-loop-octet
decreases-loop-octet l = length (left_of l.reader l.bytes)
