use Rattle.std.proofs.Common.{arith}
use Rattle.hpack_codes.proofs.HuffmanLemmas.{starts}
use Rattle.hpack_codes.proofs.huffman.decoded.Goals as goal

pub loop-octet-init : goal.loop-octet-init
loop-octet-init c =
    rw (c.new-reader.ensures, c.in_ok-octets.ensures.items) (record { few = omega arith; kept = omega arith; within = omega arith }, starts c.args.bytes.now)
