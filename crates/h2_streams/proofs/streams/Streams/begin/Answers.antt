-- The new stream goes last, since no live stream has its id.
use Rattle.std.proofs.Common.{rules, ◌≡◌, ◌<◌, ◌%◌, nat_eq, length, ap, subst, ◌∙◌}
use Rattle.indexmap.proofs.CallerLemmas.{insert_entry-new}
use Rattle.indexmap.specs.IndexMap.{insert_entry}
use Rattle.h2_streams.specs.declared.stream.Stream.{Stream}
use Rattle.h2_streams.specs.Book.{Book, opened}
use Rattle.h2_streams.specs.Calls.{new_stream}
use Rattle.h2_streams.proofs.streams.Streams.begin.Goals as goal

pub returns : goal.returns
returns c =
    let id = c.args.id in
    let live = c.self.inside.live in
    let stream : Stream = new_stream c.args.send c.args.ended in
    let odd : id % 2 ≡ 1 = search rules in
    let above : c.self.inside.last < id = search rules in
    let few : length live.entries < 100 = search rules in
    let entries : c.insert.new.self.entries ≡ insert_entry nat_eq live.entries id stream = search rules in
    let last = insert_entry-new nat_eq live id stream (c.self.invariant.none_above id above) in
    let view : Book → Book = λ book. opened book id stream in
    let resets : c.make_room.new.self.ids ≡ c.self.inside.resets.ids = search rules in (
      (odd, subst (λ book. book.last < id) c.self.view_is above),
      subst (λ book. length book.live < 100) c.self.view_is few,
      (λ i. record { live = (entries ∙ last) i; last = id; resets = resets i }) ∙ ap view c.self.view_is,
    )
