use Rattle.std.proofs.Common.{◌≡◌, ◌+◌, ◌<◌, ◌⊎◌, ℕ, ap, sym, subst, ◌∙◌}
use Rattle.filter.specs.Machine.{depth_of}
use Rattle.filter.specs.Text.{token_at}
use Rattle.filter.specs.declared.limits.TheConstants.{MAX_DEPTH, MAX_LITERALS}
use Rattle.filter.proofs.Strings.{slice_all, behind_ascii}
use Rattle.filter.proofs.restriction.take_token.Goals as goal

pub token_at-requires-clause-utf8 : goal.token_at-requires-clause-utf8
token_at-requires-clause-utf8 c = behind_ascii c.args.text.now c.args.reading.at c.requires.utf8 c.requires.place

pub returns-then-is_past_limits : goal.returns-then-is_past_limits
returns-then-is_past_limits c = record {
  token = c.in-Ok.found.token;
  len = c.in-Ok.found.len;
  next = c.in-Ok-step.state;
  found = ap token_at (sym (slice_all c.args.text.now c.args.reading.at)) ∙ c.in-Ok.ensures.found;
  steps = c.in-Ok-step.ensures;
  passes = subst (λ n. (MAX_DEPTH < depth_of c.in-Ok-step.state) ⊎ (MAX_LITERALS < c.args.reading.literals + n)) c.literal_ends.ensures
      (c.is_past_limits.ensures.0 c.if-is_past_limits.true);
}
