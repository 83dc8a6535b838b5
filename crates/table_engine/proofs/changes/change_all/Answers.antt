-- A change of the sessions leaves the streams, and one of the streams the sessions.
use Rattle.std.proofs.Common.{sym, ◌∙◌}
use Rattle.read_sessions.proofs.BookLemmas.{Stands-other}
use Rattle.table_engine.proofs.ChangeLemmas.{read_of, change_of, other_of}
use Rattle.table_engine.proofs.changes.change_all.Goals as goal

pub change_sessions-requires : goal.change_sessions-requires
change_sessions-requires c = read_of c.args.book.now c.args.sessions.now c.args.entry.now.change (sym c.is_read.ensures ∙ c.if-is_read.true) c.requires.change

pub change_streams-requires-clause-change : goal.change_streams-requires-clause-change
change_streams-requires-clause-change c = change_of c.args.book.now c.args.sessions.now c.args.entry.now.change (sym c.is_read.ensures ∙ c.if-is_read.false) c.requires.change

pub returns-in_ok-change_streams-clause-reads : goal.returns-in_ok-change_streams-clause-reads
returns-in_ok-change_streams-clause-reads c history stands visible =
    Stands-other c.args.sessions.now history c.args.entry.now stands (other_of c.args.entry.now.change (sym c.is_read.ensures ∙ c.if-is_read.false))
