-- The new stream stands behind those before it.
use mir.Syntax.{w64}
use mir.Val.{to_z, of_z}
use Rattle.std.proofs.Common.{◌≡◌, ◌++◌, ◌∷◌, [], Some, ap, ◌∙◌, rules}
use Rattle.write_streams.specs.Book.{Book, unused}
use Rattle.write_streams.proofs.StandsLemmas.{Stands-added}
use Rattle.write_streams.proofs.book.StreamBook.add.Goals as goal

pub returns-clause-stands : goal.returns-clause-stands
returns-clause-stands c =
    let push : Book → Book = λ book. record book { created = book.created ++ unused c.args.kind (Some c.args.moment) ∷ [] } in
    let same : to_z w64 (of_z w64 c.args.moment) ≡ c.args.moment = search rules in
    let state = c.unused_state.ensures ∙ ap (λ moment. unused c.args.kind (Some moment)) same in
    let items = c.in_ok-push.ensures.items ∙ ap (λ state. c.self.inside.created.items ++ state ∷ []) state in
    Stands-added c.args.self.now (record { default = c.self.inside.default_stream; created = c.push.new.self.items }) c.args.kind c.args.moment
    (ap (λ created. record { default = c.self.inside.default_stream; created = created }) items ∙ ap push c.self.view_is)
