use Rattle.filter.proofs.Strings.{HasRead}
use Rattle.std.proofs.Common.{◌-◌, length}
use Rattle.filter.proofs.lexer.string_body.Given as goal

abbrev pub invariant-parts : goal.invariant-parts
invariant-parts l = HasRead l.quote l.bytes l.at l.text.items

abbrev pub decreases-parts : goal.decreases-parts
decreases-parts l = length l.bytes - l.at
