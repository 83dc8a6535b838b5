use Rattle.std.proofs.Common.{◌≡◌, arith, to_z, of_z, w64}
use Rattle.std.proofs.lemmas.Int.{ints}
use Rattle.h2_answers.specs.Bounds.{Bounds, bounds_of}
use Rattle.h2_answers.proofs.QueueLemmas.{IsNextDue-turns}
use Rattle.h2_answers.proofs.answers.Answers.next.Goals as goal

pub returns-in-None : goal.returns-in-None
returns-in-None g c =
    let bounds : Bounds = bounds_of (g.L.Limits.windows c.args.limits.now) (g.L.Limits.holds c.args.limits.now) c.args.connection c.args.first c.args.room in
    let window : to_z w64 (of_z w64 c.args.connection) ≡ c.args.connection = omega (arith, ints) in
    let later = rw window at c.in-None.ensures in
    let earlier = rw window at c.next_within-in-None.ensures in
    rw (← c.self.view_is) (IsNextDue-turns bounds c.self.inside.queues.entries c.min-turn.result c.len-len.result c.len-len.ensures.len later c.next_within-in-None.result earlier)
