use Rattle.std.proofs.Common.{◌∙◌, ap, sym}
use Rattle.filter.proofs.Bytes.{signed_ascii, negative_read}
use Rattle.filter.proofs.lexer.negative_of.Goals as goal

pub ascii_text-requires : goal.ascii_text-requires
ascii_text-requires c = signed_ascii c.args.text.now c.requires.sign c.requires.digits

pub returns : goal.returns
returns c = c.ok.ensures.value ∙ negative_read c.args.text.now c.parse.result (rw c.ascii_text.ensures at c.parse.ensures.value.0) c.requires.sign c.requires.digits
