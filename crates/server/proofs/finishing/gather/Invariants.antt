-- Some of the others were joined to the first.
use Rattle.std.proofs.Common.{◌≡◌, ◌<◌, false, All}
use Rattle.open_tables.specs.Tables.{AreTheirs}
use Rattle.job_queue.specs.Hands.{IsOf, known}
use Rattle.server.proofs.HandLemmas.{Gathering}
use Rattle.server.proofs.finishing.gather.Given as goal

abbrev pub invariant-loop-other : goal.invariant-loop-other
invariant-loop-other g l =
    (goal.iterator-loop-other g).can_next l.other-iterator × (goal.iterator-loop-other g).is_finite l.other-iterator
    × AreTheirs l.tables l.passes × (IsOf l.queue l.hand × (0 < (known l.hand).parts))
    × All (λ worker. AreTheirs l.tables worker.passes) l.other-iterator.rest.items × All (λ worker. IsOf l.queue worker.hand) l.other-iterator.rest.items
    × All (λ worker. (known worker.hand).puts ≡ false) l.other-iterator.rest.items
    × Gathering (λ worker. worker.passes) (λ worker. known worker.hand) (λ worker. worker.links.items) (λ links. links.items)
    l.fn.first l.fn.others.items l.other-iterator.rest.items l.passes l.lists.items (known l.fn.hand) (known l.hand)
