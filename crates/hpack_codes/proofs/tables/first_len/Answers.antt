use Rattle.std.proofs.Common.{arith}
use Rattle.hpack_codes.proofs.TableLemmas.{end_at, no_code_of_four, complete, next_codes}
use Rattle.hpack_codes.proofs.tables.first_len.Goals as goal

pub loop-len-init : goal.loop-len-init
loop-len-init c = let none = no_code_of_four in omega (arith, none)

pub loop-len-preserved : goal.loop-len-preserved
loop-len-preserved c = next_codes c.loop-len.len c.args.window (omega arith) c.if-window-len.false

pub returns-then-window-len-clause-below : goal.returns-then-window-len-clause-below
returns-then-window-len-clause-below c =
    let here = end_at c.loop-len.len (omega arith) in omega (arith, here)

pub returns-clause-below : goal.returns-clause-below
returns-clause-below c = omega (arith, complete)
