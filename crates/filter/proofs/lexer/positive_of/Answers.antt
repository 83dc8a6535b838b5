use Rattle.std.proofs.Common.{◌∙◌, ap, sym}
use Rattle.filter.proofs.Bytes.{digits_ascii, positive_read}
use Rattle.filter.proofs.lexer.positive_of.Goals as goal

pub ascii_text-requires : goal.ascii_text-requires
ascii_text-requires c = digits_ascii c.args.digits.now c.requires

pub returns : goal.returns
returns c = c.ok.ensures.value ∙ positive_read c.args.digits.now c.parse.result (rw c.ascii_text.ensures at c.parse.ensures.value.0) c.requires
