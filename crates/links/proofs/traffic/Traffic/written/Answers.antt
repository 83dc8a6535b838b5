-- What the log wrote is what was kept.
use Rattle.std.proofs.Common.{◌≡◌, ◌∙◌, sym, length, take, arith}
use Rattle.links.specs.Memory.{written_by}
use Rattle.links.proofs.TrafficLemmas.{bytes_written-log_of}
use Rattle.links.proofs.traffic.Traffic.written.Goals as goal

pub returns : goal.returns
returns c =
    let t = c.self.inside in
    let all : written_by t.steps.items ≡ length t.written.items = omega (arith, c.self.invariant.2) in
    rw (← c.self.view_is) (c.as_slice.ensures.value ∙ sym (bytes_written-log_of t.steps.items (take t.at t.input.items) t.written.items all))
