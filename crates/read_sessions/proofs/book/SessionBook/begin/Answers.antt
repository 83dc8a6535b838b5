-- The book stands for the history with the session.
use mir.Syntax.{w64}
use mir.Val.{to_z, of_z}
use Rattle.std.proofs.Common.{◌≡◌, ◌++◌, ◌∷◌, [], sym, ap, ◌∙◌, subst, rules}
use Rattle.std.specs.Arc.{arc_value}
use Rattle.table_model.specs.Sessions.{begun}
use Rattle.read_sessions.specs.Stands.{Stands}
use Rattle.read_sessions.proofs.BookLemmas.{Stands-begin}
use Rattle.read_sessions.proofs.book.SessionBook.begin.Goals as goal

pub returns-clause-stands : goal.returns-clause-stands
returns-clause-stands c history entry stands few is when =
    let same : to_z w64 (of_z w64 c.args.moment) ≡ c.args.moment = search rules in
    let session = c.in_ok-session.ensures ∙ ap (λ moment. begun moment c.args.at (arc_value c.args.pred) (arc_value c.args.fields) c.args.roots) same in
    let items = c.in_ok-push.ensures.items ∙ ap (λ s. c.self.inside.sessions.items ++ s ∷ []) session
    ∙ ap (λ book. book ++ begun c.args.moment c.args.at (arc_value c.args.pred) (arc_value c.args.fields) c.args.roots ∷ []) c.self.view_is in
    subst (λ book. Stands book (history ++ entry ∷ [])) (sym items)
    (Stands-begin c.args.self.now c.args.moment c.args.at (arc_value c.args.pred) (arc_value c.args.fields) c.args.roots history entry stands few is when)
