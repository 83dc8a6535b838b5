-- Tables that are closed one after another, and their lines.
use Rattle.std.proofs.Common.{◌≡◌, ◌⊎◌, inl, inr, ℕ, List, [], ◌∷◌, ◌++◌, length, refl, sym, ap, ◌∙◌, subst, append_assoc, append-nil, arith}
use Rattle.std.specs.Prelude.{All}
use Rattle.std.specs.List.{zip}
use Rattle.std.proofs.lemmas.List.Elements.{All-head, All-tail}
use Rattle.std.proofs.lemmas.List.Concat.{flat_map-cons}
use Rattle.table_model.specs.Table.{Table}
use Rattle.turn_table.specs.View.{IsOf}
use Rattle.open_tables.specs.Tables.{TableView, OpenTable, AreTheirs, HasItsColumns, specs_of}
use Rattle.conn_service.specs.Computed.{AreAlone, histories_of}
use Rattle.server.specs.Report.{IsClosed, AreClosed, line_of, report_of}
use Rattle.server.specs.Serving.{entries_of}

-- Some are closed, as these engines: whatever closes the rest closes all, and the text wants the lines of the rest.
pub record Closing (tables : List OpenTable) (passes : List TableView) (text0 : List ℕ) (rest : List OpenTable) (others : List TableView) (engines : List Table) (text : List ℕ) : Type 0 where
  pub theirs : AreTheirs rest others
  pub columns : All HasItsColumns rest
  pub closed : (more : List Table) → AreClosed rest others more → AreClosed tables passes (engines ++ more)
  pub lines : (more : List Table) → text ++ report_of (specs_of rest) more ≡ text0 ++ report_of (specs_of tables) (engines ++ more)

-- the iterator over the one list or the other gave all that it had
pub none_given : {A B : Type 0} {P : A → Type 0} {Q : B → Type 0} (m n a b : ℕ) → m ≡ a → n ≡ b
    → ((x : A) × ((m ≡ 0) × P x)) ⊎ ((y : B) × ((n ≡ 0) × Q y)) → (a ≡ 0) ⊎ (b ≡ 0)
none_given m n a b m_is n_is (inl (x, none)) = inl (sym m_is ∙ none.0)
none_given m n a b m_is n_is (inr (y, none)) = inr (sym n_is ∙ none.0)

none_left : (rest : List OpenTable) (others : List TableView) → AreTheirs rest others → (length rest ≡ 0) ⊎ (length others ≡ 0) → (rest ≡ []) × (others ≡ [])
none_left [] [] theirs none = (refl, refl)
none_left [] (pass ∷ others) theirs none = absurd theirs
none_left (table ∷ rest) [] theirs none = absurd theirs
none_left (table ∷ rest) (pass ∷ others) theirs (inl is) = absurd (omega (arith, is))
none_left (table ∷ rest) (pass ∷ others) theirs (inr is) = absurd (omega (arith, is))

module _ (tables : List OpenTable) (passes : List TableView) (text0 : List ℕ) where
  pub none_closed : (rest : List OpenTable) (others : List TableView) (engines : List Table) → rest ≡ tables → others ≡ passes → engines ≡ []
      → AreTheirs tables passes → All HasItsColumns tables → Closing tables passes text0 rest others engines text0
  none_closed rest others engines rest_is others_is none theirs columns =
      let begun : Closing tables passes text0 tables passes [] text0 = record { theirs = theirs; columns = columns; closed = λ more is. is; lines = λ more. refl } in
      subst (λ r. Closing tables passes text0 r others engines text0) (sym rest_is)
      (subst (λ o. Closing tables passes text0 tables o engines text0) (sym others_is)
      (subst (λ es. Closing tables passes text0 tables passes es text0) (sym none) begun))

  module _ (rest : List OpenTable) (others : List TableView) (engines : List Table) (text : List ℕ) where
    -- the next, with its pass
    module _ (table : OpenTable) (rest' : List OpenTable) (pass : TableView) (others' : List TableView) (rest_is : rest ≡ table ∷ rest') (others_is : others ≡ pass ∷ others') where
      at_next : Closing tables passes text0 rest others engines text → Closing tables passes text0 (table ∷ rest') (pass ∷ others') engines text
      at_next closing =
          subst (λ r. Closing tables passes text0 r (pass ∷ others') engines text) rest_is (subst (λ o. Closing tables passes text0 rest o engines text) others_is closing)

      pub next_theirs : Closing tables passes text0 rest others engines text → IsOf table.1 pass
      next_theirs closing = (at_next closing).theirs.0

      pub next_columns : Closing tables passes text0 rest others engines text → table.1.fixed ≡ table.0.schema
      next_columns closing = All-head HasItsColumns table rest' (at_next closing).columns

      pub one_closed : (engine : Table) (engines' : List Table) (text' : List ℕ) → engines' ≡ engines ++ engine ∷ [] → text' ≡ text ++ line_of table.0.name engine.entries
          → IsClosed table pass engine → Closing tables passes text0 rest others engines text → Closing tables passes text0 rest' others' engines' text'
      one_closed engine engines' text' engines_is text_is is closing =
          let at = at_next closing in
          let line = line_of table.0.name engine.entries in
          let with_more : (more : List Table) → engines' ++ more ≡ engines ++ engine ∷ more = λ more. ap (λ es. es ++ more) engines_is ∙ append_assoc engines (engine ∷ []) more in
          record {
            theirs = at.theirs.1;
            columns = All-tail HasItsColumns table rest' at.columns;
            closed = λ more others_closed. subst (λ es. AreClosed tables passes es) (sym (with_more more)) (at.closed (engine ∷ more) (is, others_closed));
            lines = λ more.
                ap (λ t. t ++ report_of (specs_of rest') more) text_is
                ∙ append_assoc text line (report_of (specs_of rest') more)
                ∙ ap (λ t. text ++ t) (sym (flat_map-cons (λ both. line_of both.0.name both.1.entries) (table.0, engine) (zip (specs_of rest') more)))
                ∙ at.lines (engine ∷ more)
                ∙ ap (λ es. text0 ++ report_of (specs_of tables) es) (sym (with_more more));
          }

    pub all_closed : (length rest ≡ 0) ⊎ (length others ≡ 0) → Closing tables passes text0 rest others engines text
        → AreClosed tables passes engines × (text ≡ text0 ++ report_of (specs_of tables) engines)
    all_closed none closing =
        let is = none_left rest others closing.theirs none in
        let at : Closing tables passes text0 [] [] engines text =
        subst (λ r. Closing tables passes text0 r [] engines text) is.0 (subst (λ o. Closing tables passes text0 rest o engines text) is.1 closing) in (
          subst (λ es. AreClosed tables passes es) (append-nil engines) (at.closed [] tt),
          sym (append-nil text) ∙ at.lines [] ∙ ap (λ es. text0 ++ report_of (specs_of tables) es) (append-nil engines),
        )

-- ---- closed with passes that are alone

pub closed_alone : (tables : List OpenTable) (passes : List TableView) (engines : List Table) → AreClosed tables passes engines → AreAlone passes → entries_of engines ≡ histories_of passes
closed_alone [] [] [] closed alone = refl
closed_alone [] [] (engine ∷ engines) closed alone = absurd closed
closed_alone [] (pass ∷ passes) [] closed alone = absurd closed
closed_alone [] (pass ∷ passes) (engine ∷ engines) closed alone = absurd closed
closed_alone (table ∷ tables) [] [] closed alone = absurd closed
closed_alone (table ∷ tables) [] (engine ∷ engines) closed alone = absurd closed
closed_alone (table ∷ tables) (pass ∷ passes) [] closed alone = absurd closed
closed_alone (table ∷ tables) (pass ∷ passes) (engine ∷ engines) closed alone =
    let reaches = closed.0.reaches in
    let same = reaches.is ∙ ap (λ more. pass.seen ++ more) (reaches.none_if_alone alone.0) ∙ append-nil pass.seen in
    ap (λ history. history ∷ entries_of engines) same ∙ ap (λ histories. pass.seen ∷ histories) (closed_alone tables passes engines closed.1 alone.1)
