-- The first pair that has a code is the first of those that are left.
use Rattle.std.proofs.Common.{drop, ◌+◌, sym, ap, ◌∙◌}
use Rattle.std.specs.Option.{option_or}
use Rattle.h2_record.specs.Rules.{pairs_code}
use Rattle.h2_record.proofs.FaultLemmas.{pairs_code-drop}
use Rattle.h2_conn.proofs.early.pairs_code.Goals as goal

pub returns-in-Some : goal.returns-in-Some
returns-in-Some c =
    let pairs = c.args.pairs.now in
    let i = c.loop-pair.pair-index in
    ap (λ code. option_or code (pairs_code (drop (i + 1) pairs))) (sym c.in-Some.is ∙ c.pair_code.ensures) ∙ sym (pairs_code-drop pairs i _ c.loop-pair-test.true) ∙ c.loop-pair.invariant

pub loop-pair-preserved : goal.loop-pair-preserved
loop-pair-preserved c =
    let pairs = c.args.pairs.now in
    let i = c.loop-pair.pair-index in
    ap (λ code. option_or code (pairs_code (drop (i + 1) pairs))) (sym c.in_default.is ∙ c.pair_code.ensures) ∙ sym (pairs_code-drop pairs i _ c.loop-pair-test.true) ∙ c.loop-pair.invariant
