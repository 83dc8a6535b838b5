use Rattle.std.proofs.Common.{arith}
use Rattle.hpack_blocks.proofs.sizes.octets_size.Goals as goal

pub returns : goal.returns
returns c = omega (arith, c.saturating_add.ensures, c.saturating_add-2.ensures)
