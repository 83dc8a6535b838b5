use Rattle.std.proofs.Common.{◌∙◌, ap, sym, Some}
use Rattle.row_descriptor.proofs.DescriptorLemmas.{utf8_of-text, utf8_of-none}
use Rattle.row_descriptor.proofs.parts.utf8.Goals as goal

pub returns-in-Ok : goal.returns-in-Ok
returns-in-Ok c = utf8_of-text c.args.bytes.now c.in-Ok.ensures.cases.1 ∙ ap Some (sym c.in-Ok.ensures.cases.0)

pub returns-in-Err : goal.returns-in-Err
returns-in-Err c = utf8_of-none c.args.bytes.now c.in-Err.ensures.cases.0
