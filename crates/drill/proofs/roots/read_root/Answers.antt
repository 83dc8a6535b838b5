-- The root is there, and its rows come behind.
use Rattle.std.proofs.Common.{subst}
use Rattle.table_engine.specs.declared.looks.Key.{Key}
use Rattle.table_engine.specs.Looks.{Looks}
use Rattle.drill.proofs.RootLemmas.{one_read_from, root_there}
use Rattle.drill.proofs.roots.read_root.Goals as goal

pub held_of-held-requires : goal.held_of-held-requires
held_of-held-requires c = λ none.
    let key : Key = record { session = c.args.session; node = c.args.node } in
    root_there c.args.table.now.columns c.args.table.now.entries c.args.session c.args.node c.requires.legal c.requires.root
    (subst (Looks c.args.table.now.columns c.args.table.now.entries key) none c.in_ok-told.ensures)

pub returns : goal.returns
returns c =
    let key : Key = record { session = c.args.session; node = c.args.node } in
    one_read_from c.args.table.now.columns c.args.table.now.entries c.args.session c.args.node c.held_of-held.result c.args.rows c.new-first.result.items c.read_rest.new.rows
    (subst (Looks c.args.table.now.columns c.args.table.now.entries key) c.held_of-held.ensures c.in_ok-told.ensures)
    c.new-first.ensures.items c.in_ok-read_rest.ensures c.requires.root c.requires.read
