-- The jobs so far were served.
use Rattle.std.proofs.Common.{◌≡◌}
use Rattle.open_tables.specs.Tables.{AreTheirs, specs_of}
use Rattle.call_plans.specs.Plans.{plan}
use Rattle.conn_service.specs.Computed.{AreAlone}
use Rattle.job_queue.specs.Hands.{IsOf, known}
use Rattle.server.specs.Works.{HasWorked}
use Rattle.server.proofs.workers.work.Given as goal

abbrev pub invariant-loop : goal.invariant-loop
invariant-loop g l =
    AreTheirs l.tables l.passes × IsOf l.queue l.hand × ((known l.hand).parts ≡ (known l.fn.worker.hand).parts) × ((known l.hand).puts ≡ (known l.fn.worker.hand).puts)
    × ((known l.hand).put ≡ (known l.fn.worker.hand).put) × (AreAlone l.fn.worker.passes → AreAlone l.passes)
    × HasWorked
    (λ (link : g.row.L.Denot). record { log = g.L.Link.log link; left = g.L.Link.left link; ended = g.L.Link.ended link; closed = g.L.Link.closed link; faults = g.L.Link.faults link })
    (λ job. job.link) (plan (specs_of l.tables)) l.fn.worker.passes l.passes (g.C.Clock.readings l.fn.worker.clock) (g.C.Clock.readings l.clock)
    l.fn.worker.links.items l.links.items (known l.fn.worker.hand).taken (known l.hand).taken
