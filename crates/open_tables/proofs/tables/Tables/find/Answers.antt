use Rattle.std.proofs.Common.{sym, ap, ◌∙◌}
use Rattle.std.specs.Prelude.{position}
use Rattle.std.specs.Str.{bytes_eq}
use Rattle.open_tables.specs.Tables.{OpenTable}
use Rattle.open_tables.proofs.TableLemmas.{place_of-specs_of}
use Rattle.open_tables.proofs.tables.Tables.find.Goals as goal

pub returns-in_err-place-clause-place : goal.returns-in_err-place-clause-place
returns-in_err-place-clause-place c =
    c.from_residual.ensures ∙ sym c.in_err-place.was ∙ c.place_named.ensures.place
    ∙ ap (λ tables. position (λ (table : OpenTable). bytes_eq table.0.name c.args.name.now) tables) (c.as_slice.ensures.value ∙ c.self.view_is)
    ∙ sym (place_of-specs_of c.args.self.now c.args.name.now)

pub returns-clause-place : goal.returns-clause-place
returns-clause-place c =
    sym c.in_ok-place.was ∙ c.place_named.ensures.place
    ∙ ap (λ tables. position (λ (table : OpenTable). bytes_eq table.0.name c.args.name.now) tables) (c.as_slice.ensures.value ∙ c.self.view_is)
    ∙ sym (place_of-specs_of c.args.self.now c.args.name.now)
