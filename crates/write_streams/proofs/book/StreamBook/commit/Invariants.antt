-- The streams so far are committed, and no other is changed.
use Rattle.std.proofs.Common.{take}
use Rattle.std.specs.List.{list_any}
use Rattle.table_model.specs.Streams.{is_one_stream}
use Rattle.write_streams.specs.Book.{Changes, with_committed}
use Rattle.write_streams.proofs.book.StreamBook.commit.Given as goal

abbrev pub invariant-loop-stream : goal.invariant-loop-stream
invariant-loop-stream l = Changes l.fn.self l.self (λ on. list_any (is_one_stream on) (take l.stream-index l.streams)) (with_committed l.moment)
