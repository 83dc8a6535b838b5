-- Some of the others were made.
use Rattle.std.proofs.Common.{◌≡◌, ◌<◌, ◌+◌, [], All, map, vec_len, vec_capacity}
use Rattle.job_queue.specs.Hands.{IsOf, known}
use Rattle.job_queue.specs.Queue.{taker}
use Rattle.server.specs.Crew.{AreTeams}
use Rattle.server.proofs.teams.split_crew.Given as goal

abbrev pub invariant-loop-made : goal.invariant-loop-made
invariant-loop-made g l =
    IsOf l.queue l.hand × ((known l.hand).parts + l._made ≡ (known l.fn.hand).parts) × ((known l.hand).puts ≡ (known l.fn.hand).puts) × ((known l.hand).put ≡ (known l.fn.hand).put)
    × ((known l.hand).taken ≡ (known l.fn.hand).taken)
    × (vec_len l.others ≡ l._made) × (l.count < vec_capacity l.others)
    × AreTeams l.tables l.fn.passes l.first (map (λ worker. worker.passes) l.others.items)
    × All (λ worker. IsOf l.queue worker.hand) l.others.items
    × All (λ worker. (known worker.hand ≡ taker) × (worker.links.items ≡ [])) l.others.items
    × All (λ worker. g.C.Clone.is_clone l.clock worker.clock) l.others.items
