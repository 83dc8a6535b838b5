-- The snapshots rise up to the last, and tell of the history with the entry.
use mir.Syntax.{w64}
use mir.Val.{to_z, of_z}
use Rattle.std.proofs.Common.{◌≡◌, List, ◌++◌, ◌∷◌, [], sym, ap, ◌∙◌, subst, rules}
use Rattle.read_sessions.specs.declared.snapshots.Snapshot.{Snapshot}
use Rattle.read_sessions.specs.Snapshots.{Rise, IsPast, Tells}
use Rattle.read_sessions.proofs.SnapshotLemmas.{Rise-push, Tells-push}
use Rattle.read_sessions.proofs.snapshots.Snapshots.add.Goals as goal

pub invariant_of-self : goal.invariant_of-self
invariant_of-self c =
    let same : to_z w64 (of_z w64 c.args.moment) ≡ c.args.moment = search rules in
    let s : Snapshot = record { moment = c.args.moment; visible = c.args.visible } in
    let items = c.push_reserved.ensures.items ∙ ap (λ m. c.self.inside.list.items ++ record { moment = m; visible = c.args.visible } ∷ []) same in
    let past : IsPast c.args.moment c.self.inside.list.items = subst (λ kept. IsPast c.args.moment kept.list) (sym c.self.view_is) c.requires.past in
    subst Rise (sym items) (Rise-push c.self.inside.list.items s c.self.invariant past)

pub returns-clause-tells : goal.returns-clause-tells
returns-clause-tells c history entry tells next at count =
    let same : to_z w64 (of_z w64 c.args.moment) ≡ c.args.moment = search rules in
    let s : Snapshot = record { moment = c.args.moment; visible = c.args.visible } in
    let items = c.push_reserved.ensures.items ∙ ap (λ m. c.self.inside.list.items ++ record { moment = m; visible = c.args.visible } ∷ []) same
    ∙ ap (λ kept. kept.list ++ s ∷ []) c.self.view_is in
    subst (λ snapshots. Tells snapshots (history ++ entry ∷ [])) (sym items) (Tells-push c.args.self.now.list s history entry tells next at count)
