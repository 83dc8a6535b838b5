use Rattle.std.proofs.Common.{Ok}
use Rattle.std.specs.declared.alloc.AllocError.{AllocError}
use Rattle.std.proofs.lemmas.Iterator.Consumers.{map_from_collect}
use Rattle.std.proofs.lemmas.Iterator.Splits.{YieldsList-from_str_split}
use Rattle.command_line.proofs.numbers.parts.Goals as goal

pub returns : goal.returns
returns c =
    let split = YieldsList-from_str_split {s = c.split.result} c.args.at c.args.text.now c.requires c.split.ensures.text c.split.ensures.has_more c.split.ensures.pattern in
    map_from_collect {E = AllocError} (Ok c.in_ok-collect.field-0) c.in_ok-collect.ensures.ran split
