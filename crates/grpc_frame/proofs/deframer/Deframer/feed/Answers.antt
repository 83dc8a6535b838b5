use Rattle.std.proofs.Common.{◌++◌, drop, length, min, ap, ◌∙◌}
use Rattle.grpc_frame.specs.Held.{Held}
use Rattle.grpc_frame.proofs.StartedLemmas.{started-fed, filled-same}
use Rattle.grpc_frame.proofs.deframer.Deframer.feed.Goals as goal

pub returns-clause-fed : goal.returns-clause-fed
returns-clause-fed c =
    started-fed c.self.inside.limit c.min-taken.result c.self.inside.started c.fill.new.started (drop c.self.inside.given c.self.inside.bytes.items) _ c.args.bytes.now c.self.invariant.2 (c.min-taken.ensures ∙ ap (λ n. min n (length c.args.bytes.now)) c.missing.ensures) (filled-same _ _ _ _ c.make_room.ensures.same c.fill.ensures) c.in_ok-append.ensures.ok
    ∙ ap (λ (h : Held). h.bytes ++ c.args.bytes.now) c.self.view_is
