use Rattle.filter.proofs.Sizes.{sized, token_sized}
use Rattle.filter.proofs.lexer.token_at.Goals as goal

pub returns-clause-len : goal.returns-clause-len
returns-clause-len c = sized _ _ c.any_token_at.result c.any_token_at.ensures (token_sized c.args.bytes.now c.requires.some)
