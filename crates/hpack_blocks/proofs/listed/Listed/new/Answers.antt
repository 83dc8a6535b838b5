use Rattle.std.proofs.Common.{arith}
use Rattle.hpack_blocks.proofs.TableLemmas.{no_size}
use Rattle.hpack_blocks.proofs.listed.Listed.new.Goals as goal

pub returns : goal.returns
returns c = (omega (arith, no_size), λ h. c.in_ok-with_capacity.ensures.items, λ h. c.in_ok-with_capacity.ensures.items)
