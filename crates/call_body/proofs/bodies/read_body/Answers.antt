-- Each end, and each turn of the loop.
use Rattle.std.proofs.Common.{◌≡◌, refl, ◌∙◌}
use Rattle.grpc_frame.specs.Part.{part_of}
use Rattle.grpc_frame.specs.declared.part.Part.TheVariants as part
use Rattle.call_body.proofs.Exits.{At-none, At-fed, At-stepped, end-kept, held-none, unfinished-none, ends-done, ends-cut, ends-long, ends-refused, ends-source, ends-unfed, ends-sink, ends-unanswered, At-takes, At-takes-end, At-takes-same, At-takes-piece}
use Rattle.call_body.proofs.bodies.read_body.Goals as goal

pub loop-read-init : goal.loop-read-init
loop-read-init g c = rw c.new-deframer.ensures (At-none _ _ _ _ _, unfinished-none _, refl, refl, refl)

pub returns-in-End-clause-ending : goal.returns-in-End-clause-ending
returns-in-End-clause-ending g c =
    let inv = c.loop-read.invariant in
    let feeds = c.in-End.ensures.feeds in
    let unfinished : part_of c.feed_piece.new.deframer.limit c.feed_piece.new.deframer.bytes ≡ part.More = rw (feeds.2, c.in-End.ensures.limit, inv.2) inv.1 in
    let some = rw feeds.2 at ((c.inside.ensures.after_more unfinished).0 c.if-inside.true) in
    ends-cut _ _ _ (g.I.Source.left c.loop-read.input) _ _ _ _ c.loop-read.deframer.bytes c.loop-read.read inv.0 c.loop-read-test.true feeds.0 some inv.1

pub returns-in-End-clause-takes : goal.returns-in-End-clause-takes
returns-in-End-clause-takes g c =
    At-takes-end _ _ _ (g.I.Source.left c.loop-read.input) _ _ _ _ _ c.loop-read.deframer.bytes c.loop-read.read c.loop-read.invariant.0 c.in-End.ensures.feeds.1

pub returns-in-End-2-clause-ending : goal.returns-in-End-2-clause-ending
returns-in-End-2-clause-ending g c =
    let inv = c.loop-read.invariant in
    let feeds = c.in-End-2.ensures.feeds in
    let unfinished : part_of c.feed_piece.new.deframer.limit c.feed_piece.new.deframer.bytes ≡ part.More = rw (feeds.2, c.in-End-2.ensures.limit, inv.2) inv.1 in
    let none = rw feeds.2 at (held-none c.feed_piece.new.deframer.bytes c.inside.result (c.inside.ensures.after_more unfinished).1 c.if-inside.false) in
    ends-done _ _ _ (g.I.Source.left c.loop-read.input) _ _ _ _ c.loop-read.deframer.bytes c.loop-read.read inv.0 c.loop-read-test.true feeds.0 none

pub returns-in-End-2-clause-read : goal.returns-in-End-2-clause-read
returns-in-End-2-clause-read g c =
    let feeds = c.in-End-2.ensures.feeds in
    end-kept _ (g.I.Source.left c.loop-read.input) _ c.loop-read.invariant.0.bytes c.loop-read.invariant.0.consumed feeds.0 feeds.1

pub returns-in-End-2-clause-takes : goal.returns-in-End-2-clause-takes
returns-in-End-2-clause-takes g c =
    At-takes-end _ _ _ (g.I.Source.left c.loop-read.input) _ _ _ _ _ c.loop-read.deframer.bytes c.loop-read.read c.loop-read.invariant.0 c.in-End-2.ensures.feeds.1

pub returns-in-Outside-clause-ending : goal.returns-in-Outside-clause-ending
returns-in-Outside-clause-ending g c =
    let inv = c.loop-read.invariant in
    ends-source _ _ _ (g.I.Source.left c.loop-read.input) _ _ _ _ c.loop-read.deframer.bytes c.loop-read.read inv.0

pub returns-in-Outside-clause-takes : goal.returns-in-Outside-clause-takes
returns-in-Outside-clause-takes g c =
    At-takes-same _ _ _ (g.I.Source.left c.loop-read.input) _ _ _ _ _ c.loop-read.deframer.bytes c.loop-read.read c.loop-read.invariant.0 c.in-Outside.ensures.feeds.0

pub returns-in-Memory-clause-ending : goal.returns-in-Memory-clause-ending
returns-in-Memory-clause-ending g c =
    let inv = c.loop-read.invariant in
    ends-unfed _ _ _ (g.I.Source.left c.loop-read.input) _ _ _ _ c.loop-read.deframer.bytes c.loop-read.read inv.0

pub returns-in-Memory-clause-takes : goal.returns-in-Memory-clause-takes
returns-in-Memory-clause-takes g c =
    let piece = c.in-Memory.ensures.feeds.0 in
    At-takes-piece _ _ _ (g.I.Source.left c.loop-read.input) _ _ _ _ _ c.loop-read.deframer.bytes piece.0 c.loop-read.read c.loop-read.invariant.0 c.loop-read-test.true piece.1 piece.2

pub loop-read-preserved : goal.loop-read-preserved
loop-read-preserved g c =
    let inv = c.loop-read.invariant in
    let feeds = c.in-Bytes.ensures.feeds in
    let steps = rw feeds.5 at c.in-Went.ensures.steps in
    let fed = At-fed _ _ _ (g.I.Source.left c.loop-read.input) (g.I.Source.left c.feed_piece.new.input) _ _ _ _ c.loop-read.deframer.bytes feeds.0 c.loop-read.read c.in-Bytes.n
    inv.0 c.loop-read-test.true feeds.1 feeds.3 feeds.4 in
    (At-stepped _ _ _ _ _ _ _ _ _ _ _ _ steps.0 _ fed steps.1 steps.2, steps.3, c.in-Went.ensures.limit ∙ c.in-Bytes.ensures.limit ∙ inv.2, feeds.6 ∙ inv.3, c.in-Went.ensures.cause ∙ inv.4)

pub returns-in-Refused-clause-ending : goal.returns-in-Refused-clause-ending
returns-in-Refused-clause-ending g c =
    let inv = c.loop-read.invariant in
    let feeds = c.in-Bytes.ensures.feeds in
    let steps = rw feeds.5 at c.in-Refused.ensures.steps in
    let fed = At-fed _ _ _ (g.I.Source.left c.loop-read.input) (g.I.Source.left c.feed_piece.new.input) _ _ _ _ c.loop-read.deframer.bytes feeds.0 c.loop-read.read c.in-Bytes.n
    inv.0 c.loop-read-test.true feeds.1 feeds.3 feeds.4 in
    ends-refused _ _ _ (g.I.Source.left c.feed_piece.new.input) _ _ _ _ _ _ _ steps.1 steps.0 _ fed steps.2 steps.3 steps.4

pub returns-in-Refused-clause-takes : goal.returns-in-Refused-clause-takes
returns-in-Refused-clause-takes g c =
    let feeds = c.in-Bytes.ensures.feeds in
    At-takes-piece _ _ _ (g.I.Source.left c.loop-read.input) _ _ _ _ _ c.loop-read.deframer.bytes feeds.0 c.loop-read.read c.loop-read.invariant.0 c.loop-read-test.true (rw feeds.1 feeds.3) feeds.4

pub returns-in-Outside-answer_held-clause-ending : goal.returns-in-Outside-answer_held-clause-ending
returns-in-Outside-answer_held-clause-ending g c =
    let inv = c.loop-read.invariant in
    let feeds = c.in-Bytes.ensures.feeds in
    let steps = rw feeds.5 at c.in-Outside-answer_held.ensures.steps in
    let fed = At-fed _ _ _ (g.I.Source.left c.loop-read.input) (g.I.Source.left c.feed_piece.new.input) _ _ _ _ c.loop-read.deframer.bytes feeds.0 c.loop-read.read c.in-Bytes.n
    inv.0 c.loop-read-test.true feeds.1 feeds.3 feeds.4 in
    ends-sink _ _ _ (g.I.Source.left c.feed_piece.new.input) _ _ _ _ _ _ _ steps.0 _ fed steps.1 steps.2

pub returns-in-Outside-answer_held-clause-takes : goal.returns-in-Outside-answer_held-clause-takes
returns-in-Outside-answer_held-clause-takes g c =
    let feeds = c.in-Bytes.ensures.feeds in
    At-takes-piece _ _ _ (g.I.Source.left c.loop-read.input) _ _ _ _ _ c.loop-read.deframer.bytes feeds.0 c.loop-read.read c.loop-read.invariant.0 c.loop-read-test.true (rw feeds.1 feeds.3) feeds.4

pub returns-in-Memory-answer_held-clause-ending : goal.returns-in-Memory-answer_held-clause-ending
returns-in-Memory-answer_held-clause-ending g c =
    let inv = c.loop-read.invariant in
    let feeds = c.in-Bytes.ensures.feeds in
    let steps = rw feeds.5 at c.in-Memory-answer_held.ensures.steps in
    let fed = At-fed _ _ _ (g.I.Source.left c.loop-read.input) (g.I.Source.left c.feed_piece.new.input) _ _ _ _ c.loop-read.deframer.bytes feeds.0 c.loop-read.read c.in-Bytes.n
    inv.0 c.loop-read-test.true feeds.1 feeds.3 feeds.4 in
    ends-unanswered _ _ _ (g.I.Source.left c.feed_piece.new.input) _ _ _ _ _ _ _ steps.0 _ fed steps.1 steps.2

pub returns-in-Memory-answer_held-clause-takes : goal.returns-in-Memory-answer_held-clause-takes
returns-in-Memory-answer_held-clause-takes g c =
    let feeds = c.in-Bytes.ensures.feeds in
    At-takes-piece _ _ _ (g.I.Source.left c.loop-read.input) _ _ _ _ _ c.loop-read.deframer.bytes feeds.0 c.loop-read.read c.loop-read.invariant.0 c.loop-read-test.true (rw feeds.1 feeds.3) feeds.4

pub returns-clause-ending : goal.returns-clause-ending
returns-clause-ending g c =
    let inv = c.loop-read.invariant in
    ends-long _ _ _ (g.I.Source.left c.loop-read.input) _ _ _ _ c.loop-read.deframer.bytes c.loop-read.read inv.0 c.loop-read-test.false inv.1

pub returns-clause-takes : goal.returns-clause-takes
returns-clause-takes g c = At-takes _ _ _ (g.I.Source.left c.loop-read.input) _ _ _ _ c.loop-read.deframer.bytes c.loop-read.read c.loop-read.invariant.0
