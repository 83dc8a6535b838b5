-- All streams were committed, at the moment that was handed in.
use mir.Syntax.{w64}
use mir.Val.{to_z, of_z}
use Rattle.std.proofs.Common.{◌≡◌, sym, ◌∙◌, rules}
use Rattle.write_streams.proofs.StandsLemmas.{Stands-committed}
use Rattle.write_streams.proofs.book.StreamBook.commit.Goals as goal

pub returns-clause-stands : goal.returns-clause-stands
returns-clause-stands c history entry stands is at =
    let same : to_z w64 (of_z w64 c.args.moment) ≡ c.args.moment = search rules in
    Stands-committed c.args.self.now c.loop-stream.self c.args.streams.now c.loop-stream.stream-index (to_z w64 (of_z w64 c.args.moment)) c.requires
    c.loop-stream-test.false c.loop-stream.invariant history entry stands is (at ∙ sym same)
