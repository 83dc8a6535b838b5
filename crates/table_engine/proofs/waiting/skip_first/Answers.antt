-- A slice that isn't longer than what is left leaves.
use Rattle.std.proofs.Common.{◌≡◌, ◌-◌, ◌≤◌, length, drop, ap, ◌∙◌, arith}
use Rattle.row_groups.specs.Places.{joined}
use Rattle.table_engine.proofs.QueueLemmas.{skip_first_whole}
use Rattle.table_engine.proofs.waiting.skip_first.Goals as goal

pub loop-first-preserved-else-left-len : goal.loop-first-preserved-else-left-len
loop-first-preserved-else-left-len c =
    let len : c.from-len.result ≡ length c.in-Some.first.now = c.from-len.ensures ∙ c.len.ensures.value in
    let within : length c.in-Some.first.now ≤ c.loop-first.left = omega (arith, len, c.if-left-len.false) in
    ap (λ n. drop (c.loop-first.left - n) (joined c.pop_front.new.self.items)) len
    ∙ skip_first_whole c.loop-first.slices.items c.pop_front.new.self.items c.in-Some.first.now c.loop-first.left c.in-Some.ensures.value c.pop_front.ensures.rest within
    ∙ c.loop-first.invariant
