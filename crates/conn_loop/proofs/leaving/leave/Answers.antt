-- The frames so far went, and each exit is a lemma.
use Rattle.std.proofs.Common.{◌≡◌, List, Option, refl, ◌∙◌, subst}
use Rattle.links.specs.Link.{Moved}
use Rattle.conn_deferral.specs.Deferred.{Deals}
use Rattle.conn_calls.specs.Dealing.{Dealt, dealing_of}
use Rattle.conn_loop.specs.Settling.{Went}
use Rattle.conn_loop.proofs.WentLemmas.{went-nothing, went-then}
use Rattle.conn_loop.proofs.LeavingLemmas.{left-said, left-fault, left-memory}
use Rattle.conn_loop.proofs.leaving.leave.Goals as goal

pub loop-init : goal.loop-init
loop-init g c =
    let log : Option (List Moved) = g.L.Link.log c.args.link.now in
    let now : Dealt = record { conn = c.conn.inside.conn; bodies = c.conn.inside.bodies.entries } in
    let W : Dealt → Type 0 = λ d. Went Deals (dealing_of d) (dealing_of now) log log in
    (tt, tt, c.requires.open, subst W c.conn.view_is (went-nothing Deals (dealing_of now) log), refl)

pub loop-preserved : goal.loop-preserved
loop-preserved g c =
    let i = c.loop.invariant in
    let now : Dealt = record { conn = c.loop.conn-inside.conn; bodies = c.loop.conn-inside.bodies.entries } in
    let e = rw c.in-Behind.is at (c.settle_last.ensures.settles (dealing_of now).left) in
    (tt, tt, c.settle_last.ensures.open, went-then Deals _ _ _ _ _ i.3 _ e.0, e.2 ∙ i.4)

pub returns-in-Quiet-clause-leaves : goal.returns-in-Quiet-clause-leaves
returns-in-Quiet-clause-leaves g c readings plan passes0 passes old b =
    let i = c.loop.invariant in
    let now : Dealt = record { conn = c.loop.conn-inside.conn; bodies = c.loop.conn-inside.bodies.entries } in
    let e = rw c.in-Quiet.is at (c.settle_last.ensures.settles (dealing_of now).left) in
    left-said plan passes0 passes old _ _ _ b _ refl _ _ _ i.3 i.4 _ e.0 e.1 e.2

pub returns-in-LinkFault-clause-leaves : goal.returns-in-LinkFault-clause-leaves
returns-in-LinkFault-clause-leaves g c readings plan passes0 passes old b =
    let i = c.loop.invariant in
    let now : Dealt = record { conn = c.loop.conn-inside.conn; bodies = c.loop.conn-inside.bodies.entries } in
    let e = rw c.in-LinkFault.is at (c.settle_last.ensures.settles (dealing_of now).left) in
    left-fault plan passes0 passes old _ _ _ b _ refl _ _ _ i.3 i.4 e.0 e.1

pub returns-in-Memory-clause-leaves : goal.returns-in-Memory-clause-leaves
returns-in-Memory-clause-leaves g c readings plan passes0 passes old b =
    let i = c.loop.invariant in
    let now : Dealt = record { conn = c.loop.conn-inside.conn; bodies = c.loop.conn-inside.bodies.entries } in
    let e = rw c.in-Memory.is at (c.settle_last.ensures.settles (dealing_of now).left) in
    left-memory plan passes0 passes old _ _ _ b _ refl _ _ _ i.3 i.4 e.0 e.1
