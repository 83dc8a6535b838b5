-- None of those before it may be polled.
use Rattle.std.proofs.Common.{sym, refl, true≢false, arith}
use Rattle.conn_calls.proofs.PollingLemmas.{all-held, held-more}
use Rattle.conn_calls.proofs.polling.first_ready.Goals as goal

pub loop-at-init : goal.loop-at-init
loop-at-init c k none = absurd (omega (arith, none))

pub returns-in_default-clause-none : goal.returns-in_default-clause-none
returns-in_default-clause-none c is = absurd (true≢false (sym (c.in_default.ensures.found.1 (omega (arith, c.loop-at-test.true, c.len-at-end.ensures.len)))))

pub returns-then-is_ready-clause-some : goal.returns-then-is_ready-clause-some
returns-then-is_ready-clause-some c = c.if-is_ready.ensures.may refl

pub loop-at-preserved : goal.loop-at-preserved
loop-at-preserved c =
    held-more c.args.conn.now c.args.bodies.now.entries c.loop-at.at _ c.in-Some.ensures.entry (c.if-is_ready.ensures.held refl) c.loop-at.invariant

pub returns-clause-none : goal.returns-clause-none
returns-clause-none c is = all-held c.args.conn.now c.args.bodies.now.entries (λ k within. c.loop-at.invariant k (omega (arith, within, c.loop-at-test.false, c.len-at-end.ensures.len)))
