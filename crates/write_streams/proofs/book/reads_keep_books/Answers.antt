use Rattle.write_streams.proofs.StandsLemmas.{Stands-read}
use Rattle.write_streams.proofs.book.reads_keep_books.Goals as goal

pub returns : goal.returns
returns c = Stands-read
