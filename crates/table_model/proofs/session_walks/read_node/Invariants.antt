-- The session behind the entries so far.
use Rattle.std.proofs.Common.{◌≡◌, take}
use Rattle.table_model.specs.Sessions.{session_of}
use Rattle.table_model.proofs.session_walks.read_node.Given as goal

abbrev pub invariant-loop-entry : goal.invariant-loop-entry
invariant-loop-entry l = l.opened ≡ session_of (take l.entry-index l.entries) l.session
