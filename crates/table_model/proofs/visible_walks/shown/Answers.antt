-- A commit shows the rows of its streams.
use Rattle.std.proofs.Common.{sym, ◌∙◌, arith}
use Rattle.table_model.proofs.VisibleWalkLemmas.{commit_shown}
use Rattle.table_model.proofs.visible_walks.shown.Goals as goal

pub ends-requires-clause-few : goal.ends-requires-clause-few
ends-requires-clause-few c =
    let rows = commit_shown c.args.before.now c.args.change.now c.in-Commit.streams c.as_slice.result.now c.in-Commit.is c.as_slice.ensures in
    let few = c.requires.few in
    omega (arith, rows, few)

pub returns-in-Commit : goal.returns-in-Commit
returns-in-Commit c = c.ends.ensures ∙ sym (commit_shown c.args.before.now c.args.change.now c.in-Commit.streams c.as_slice.result.now c.in-Commit.is c.as_slice.ensures)
