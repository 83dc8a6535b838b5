-- Each write takes the first bytes of the rest.
use Rattle.std.proofs.Common.{◌++◌, take, ◌∙◌}
use Rattle.std.proofs.KnownBytes.{Appends-trans}
use Rattle.call_body.proofs.StepLemmas.{AppendsWhereTold-same, written-all, written-more}
use Rattle.call_body.proofs.replies.write_all.Goals as goal

pub loop-rest-preserved : goal.loop-rest-preserved
loop-rest-preserved g c =
    let inv = c.loop-rest.invariant in (
      inv.0 ++ take c.in-Took.n c.loop-rest.rest.now,
      written-more c.args.bytes.now inv.0 c.loop-rest.rest.now c.in-Took.n inv.1,
      Appends-trans _ _ _ inv.0 (take c.in-Took.n c.loop-rest.rest.now) inv.2 c.in-Took.ensures.adds,
      c.in-Took.ensures.cause ∙ inv.3,
    )

pub returns-in-Failed : goal.returns-in-Failed
returns-in-Failed g c =
    let inv = c.loop-rest.invariant in (
      (inv.0, c.loop-rest.rest.now, inv.1, AppendsWhereTold-same _ _ _ inv.0 inv.2 c.in-Failed.ensures.adds),
      rw inv.3 at c.in-Failed.ensures.cause,
    )

pub returns : goal.returns
returns g c =
    let inv = c.loop-rest.invariant in
    (rw (written-all c.args.bytes.now inv.0 c.loop-rest.rest.now inv.1 c.loop-rest-test.ensures) inv.2, inv.3)
