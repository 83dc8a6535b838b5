-- The text is its bytes, where they are UTF-8.
use Rattle.std.proofs.Common.{Ok, sym, ap, ◌∙◌}
use Rattle.write_msgs.proofs.TextLemmas.{text_from-utf8, text_from-other}
use Rattle.read_msgs.proofs.reading.text_of.Goals as goal

pub returns-in_ok-of-in-Ok : goal.returns-in_ok-of-in-Ok
returns-in_ok-of-in-Ok c =
    text_from-utf8 c.args.number c.args.bytes.now c.in-Ok.ensures.cases.1 ∙ ap Ok (sym (c.in_ok-of-in-Ok.ensures ∙ c.in-Ok.ensures.cases.0))

pub returns-in-Err : goal.returns-in-Err
returns-in-Err c = text_from-other c.args.number c.args.bytes.now c.in-Err.ensures.cases.0
