use Rattle.std.proofs.Common.{rules, map, ◌∙◌}
use Rattle.std.specs.Prelude.{string_bytes}
use Rattle.command_line.proofs.MatchLemmas.{are_plain, found, not_found, not_plain}
use Rattle.command_line.proofs.given.matches_of.Goals as goal

pub returns-then-not-are_plain : goal.returns-then-not-are_plain
returns-then-not-are_plain c = not_plain c.args.command c.args.words.now c.are_plain.result c.are_plain.ensures (search rules)

pub returns-in-Ok : goal.returns-in-Ok
returns-in-Ok c =
    found c.args.command (map string_bytes c.args.words.now) c.in_ok-parser_of.field-0 c.in-Ok.matches
    (are_plain c.args.command c.args.words.now c.are_plain.result c.are_plain.ensures (search rules)) (search rules) c.in-Ok.ensures.kinds c.in-Ok.ensures.matches

pub returns : goal.returns
returns c =
    not_found c.args.command (map string_bytes c.args.words.now) c.in_ok-parser_of.field-0 c.in-Err.fault
    (are_plain c.args.command c.args.words.now c.are_plain.result c.are_plain.ensures (search rules)) (search rules) c.in-Err.ensures.kinds (λ e. c.in_default.not-OutOfMemory (c.kind.ensures ∙ e))
