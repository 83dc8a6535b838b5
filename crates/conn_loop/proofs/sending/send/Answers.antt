-- More of the bytes went.
use Rattle.std.proofs.Common.{ℕ, ◌+◌, sym, subst, ◌∙◌}
use Rattle.std.proofs.lemmas.Result.{err_from_is_err_and}
use Rattle.outside.specs.Faults.{Rose}
use Rattle.conn_loop.specs.Settling.{TookFirst}
use Rattle.conn_loop.proofs.SendLemmas.{sent_more, sent_all, sent_first, within_more, untold}
use Rattle.conn_loop.proofs.sending.send.Goals as goal

pub returns-in-Whole-clause-sends : goal.returns-in-Whole-clause-sends
returns-in-Whole-clause-sends g c = (
  sent_all (g.L.Link.log c.args.link.now) (g.L.Link.log c.loop.link) (g.L.Link.log c.write_all.new.link) c.args.bytes.now c.loop.taken c.loop.invariant.took c.in-Whole.ensures.took,
  c.in-Whole.ensures.cause ∙ c.loop.invariant.count,
)

pub loop-preserved : goal.loop-preserved
loop-preserved g c =
    let waits = untold (g.L.Link.blocked c.write_all.new.link) (g.L.Link.log c.write_all.new.link) (g.L.Link.log c.wait.new.self) (g.L.Link.faults c.write_all.new.link) (g.L.Link.faults c.wait.new.self)
    c.in-NotReady.ensures.blocked c.in_ok-wait-in-NotReady.ensures.waits in
    let took = sent_more (g.L.Link.log c.args.link.now) (g.L.Link.log c.loop.link) (g.L.Link.log c.write_all.new.link) c.args.bytes.now c.loop.taken c.in-NotReady.n c.loop.invariant.took c.in-NotReady.ensures.took in
    record {
      can_next = tt;
      is_finite = tt;
      within = within_more c.args.bytes.now c.loop.taken c.in-NotReady.n c.loop.invariant.within c.in-NotReady.ensures.part;
      took = rw waits.0 took;
      same_left = c.wait.ensures.left ∙ c.in-NotReady.ensures.left ∙ c.loop.invariant.same_left;
      same_end = c.wait.ensures.ended ∙ c.in-NotReady.ensures.ended ∙ c.loop.invariant.same_end;
      not_closed = c.wait.ensures.open;
      count = waits.1 ∙ c.in-NotReady.ensures.cause ∙ c.loop.invariant.count;
    }

pub returns-in_err-wait-in-NotReady-clause-sends : goal.returns-in_err-wait-in-NotReady-clause-sends
returns-in_err-wait-in-NotReady-clause-sends g c =
    let waits = c.in_err-wait-in-NotReady.ensures.waits in
    let took = sent_more (g.L.Link.log c.args.link.now) (g.L.Link.log c.loop.link) (g.L.Link.log c.write_all.new.link) c.args.bytes.now c.loop.taken c.in-NotReady.n c.loop.invariant.took c.in-NotReady.ensures.took in
    let first = sent_first (g.L.Link.log c.args.link.now) (g.L.Link.log c.write_all.new.link) c.args.bytes.now (c.loop.taken + c.in-NotReady.n) took in
    let told : TookFirst (g.L.Link.log c.args.link.now) (g.L.Link.log c.wait.new.self) c.args.bytes.now = rw waits.0 first in
    let rose = subst (λ (n : ℕ). Rose n (g.L.Link.faults c.wait.new.self)) (c.in-NotReady.ensures.cause ∙ c.loop.invariant.count) waits.1 in
    let failed = err_from_is_err_and c.from_residual.result c.from_residual.ensures.1 in
    rw failed.1 (told, rose)

pub returns-in-Failed-clause-sends : goal.returns-in-Failed-clause-sends
returns-in-Failed-clause-sends g c =
    let took = sent_more (g.L.Link.log c.args.link.now) (g.L.Link.log c.loop.link) (g.L.Link.log c.write_all.new.link) c.args.bytes.now c.loop.taken c.in-Failed.field-0 c.loop.invariant.took c.in-Failed.ensures.took in (
      sent_first (g.L.Link.log c.args.link.now) (g.L.Link.log c.write_all.new.link) c.args.bytes.now (c.loop.taken + c.in-Failed.field-0) took,
      rw (sym c.loop.invariant.count) c.in-Failed.ensures.cause,
    )
