-- Each link that the door gives is put.
use Rattle.std.proofs.Common.{◌≡◌, ◌<◌, ◌+◌, ◌∙◌, sym, ap, subst, arith, refl}
use Rattle.outside.specs.Faults.{Rose}
use Rattle.server.proofs.AskLemmas.{none_asked, one_asked, asked_all, asked_last, asked_some}
use Rattle.server.proofs.asking.put_links.Goals as goal

pub loop-number-init : goal.loop-number-init
loop-number-init g c = (c.requires.hand, refl, c.requires.puts, refl, refl, none_asked _ _ _)

pub put-requires-clause-parts : goal.put-requires-clause-parts
put-requires-clause-parts g c = subst (λ n. 0 < n) (sym c.loop-number.invariant.1) c.requires.parts

pub loop-number-preserved : goal.loop-number-preserved
loop-number-preserved g c =
    let inv = c.loop-number.invariant in
    let known = c.put.ensures.known in
    let out : g.D.Door.out c.next.new.self ≡ g.D.Door.out c.loop-number.door + 1 = c.in-Conn.ensures.out in (
      c.put.ensures.hand,
      ap (λ v. v.parts) known ∙ inv.1,
      ap (λ v. v.puts) known ∙ inv.2,
      ap (λ v. v.taken) known ∙ inv.3,
      c.in-Conn.ensures.cause ∙ inv.4,
      one_asked _ _ _ _ _ _ _ _ c.job_of.result c.in-Conn.link c.job_of.ensures c.in-Conn.ensures.gives.0 c.in-Conn.ensures.handed out (ap (λ v. v.put) known) inv.5,
    )

pub returns-clause-asks : goal.returns-clause-asks
returns-clause-asks g c = asked_all _ _ _ _ _ _ _ (omega (arith, c.loop-number-test.false, c.loop-number.auto.number-end)) c.loop-number.invariant.5

pub returns-in-Closed-clause-asks : goal.returns-in-Closed-clause-asks
returns-in-Closed-clause-asks g c =
    let closed = c.in-Closed.ensures in
    asked_last _ _ _ _ _ _ _ _ closed.gives.0 closed.handed closed.out closed.gives.1 c.loop-number.invariant.5

pub returns-in-Failed-clause-asks : goal.returns-in-Failed-clause-asks
returns-in-Failed-clause-asks g c =
    let failed = c.in-Failed.ensures in
    asked_some _ _ _ _ _ _ _ _ failed.gives failed.handed failed.out _ c.loop-number.invariant.5

pub returns-in-Failed-clause-cause : goal.returns-in-Failed-clause-cause
returns-in-Failed-clause-cause g c =
    subst (λ before. Rose before (g.D.Door.faults c.next.new.self)) c.loop-number.invariant.4 c.in-Failed.ensures.cause
