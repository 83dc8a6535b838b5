-- Each entry changes the session as the definition says, and its nodes stay few.
use Rattle.std.proofs.Common.{ap, ◌∙◌}
use Rattle.table_model.specs.Sessions.{opened_after}
use Rattle.table_model.proofs.SessionWalkLemmas.{room_at, room_behind, session_of-more, session_of-none}
use Rattle.table_model.proofs.session_walks.read_node.Goals as goal

pub loop-entry-init : goal.loop-entry-init
loop-entry-init c = session_of-none c.args.session

pub opened_after-requires : goal.opened_after-requires
opened_after-requires c =
    room_at c.args.entries.now c.args.session c.loop-entry.entry-index c.loop-entry.opened c.requires.few c.requires.rooted c.loop-entry.auto.entry-index-end c.loop-entry.invariant

pub loop-entry-preserved : goal.loop-entry-preserved
loop-entry-preserved c =
    let entry = c.entry-item.result in
    c.in_ok-opened.ensures
    ∙ ap (λ before. opened_after c.args.session before entry.moment entry.change) c.loop-entry.invariant
    ∙ session_of-more c.args.entries.now c.args.session c.loop-entry.entry-index entry c.loop-entry-test.true c.entry-item.is

pub node-requires : goal.node-requires
node-requires c =
    room_behind c.args.entries.now c.args.session c.loop-entry.entry-index c.loop-entry.opened c.in-Some.opened c.requires.few c.requires.rooted
    c.loop-entry.auto.entry-index-end c.loop-entry.invariant c.in-Some.is
