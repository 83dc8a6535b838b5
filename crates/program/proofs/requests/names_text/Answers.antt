-- The name that counts is the last.
use Rattle.std.proofs.Common.{◌≡◌, Some, refl, sym, ap, ◌∙◌}
use Rattle.program.specs.Request.{is_text}
use Rattle.program.proofs.TextLemmas.{is_ok-is_utf8}
use Rattle.program.proofs.requests.names_text.Goals as goal

pub returns-in-Some : goal.returns-in-Some
returns-in-Some c =
    c.is_ok.ensures.value ∙ is_ok-is_utf8 (λ s. s.now) _ c.part.result.now c.from_utf8.result c.from_utf8.ensures.cases
    ∙ ap is_text (ap Some c.part.ensures ∙ c.in-Some.ensures.bytes c.args.message.now)
