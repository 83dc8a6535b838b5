-- What is held is what the history says.
use mir.Syntax.{w64}
use mir.Val.{to_z, of_z}
use Rattle.std.proofs.Common.{◌≡◌, Some, sym, ap, ◌∙◌, subst, rules}
use Rattle.std.specs.Arc.{arc_value}
use Rattle.row_groups.specs.Places.{joined}
use Rattle.table_model.specs.Table.{Table}
use Rattle.table_model.specs.Visible.{visible_of}
use Rattle.table_model.specs.Sessions.{session_of}
use Rattle.table_engine.specs.Looks.{Holds}
use Rattle.table_engine.proofs.LookLemmas.{begun_early, readable, holds}
use Rattle.table_engine.proofs.engine.Engine.look.Goals as goal

pub hold-requires-clause-readable : goal.hold-requires-clause-readable
hold-requires-clause-readable c =
    let keeps = c.self.invariant in
    let opened : session_of c.self.inside.entries.items c.args.key.now.session ≡ Some c.in-Some.session.now = sym (keeps.reads.found c.args.key.now.session) ∙ c.in-Some.ensures in
    let rows : joined (arc_value c.in_ok-spine.spine) ≡ visible_of c.self.inside.entries.items = ap joined c.in_ok-spine.ensures ∙ keeps.stored.shown in
    readable c.self.inside.schema c.self.inside.entries.items c.args.key.now.session c.in-Some.session.now (arc_value c.in_ok-spine.spine) keeps.within opened rows

pub hold-requires-clause-early : goal.hold-requires-clause-early
hold-requires-clause-early c =
    let keeps = c.self.invariant in
    let opened : session_of c.self.inside.entries.items c.args.key.now.session ≡ Some c.in-Some.session.now = sym (keeps.reads.found c.args.key.now.session) ∙ c.in-Some.ensures in
    begun_early c.self.inside.schema c.self.inside.entries.items c.args.key.now.session c.in-Some.session.now keeps.within opened

pub returns : goal.returns
returns c =
    let keeps = c.self.invariant in
    let opened : session_of c.self.inside.entries.items c.args.key.now.session ≡ Some c.in-Some.session.now = sym (keeps.reads.found c.args.key.now.session) ∙ c.in-Some.ensures in
    let rows : joined (arc_value c.in_ok-spine.spine) ≡ visible_of c.self.inside.entries.items = ap joined c.in_ok-spine.ensures ∙ keeps.stored.shown in
    let same : to_z w64 (of_z w64 c.self.inside.latest) ≡ c.self.inside.latest = search rules in
    subst (λ (table : Table). Holds table.columns table.entries c.args.key.now c.in_ok-held.held) c.self.view_is
    (holds c.self.inside.schema c.self.inside.entries.items c.args.key.now c.in_ok-held.held c.in-Some.session.now c.in-Some-node.node (arc_value c.in_ok-spine.spine) c.self.inside.latest
    keeps.within opened (sym c.in-Some-node.ensures.node) rows keeps.latest_is c.in_ok-held.ensures.lease c.in_ok-held.ensures.times.0 (c.in_ok-held.ensures.times.1 ∙ same))
