-- What the lines tell.
use Rattle.std.proofs.Common.{◌≡◌, List, length, subst}
use Rattle.column_types.specs.declared.row.Row.{Row}
use Rattle.table_model.specs.Visible.{visible_of}
use Rattle.drill.specs.Summary.{appends_of, lines_of, sum_of}
use Rattle.drill.proofs.LastLemmas.{sums}
use Rattle.drill.proofs.drills.drill_of.Goals as goal

pub returns : goal.returns
returns c =
    let entries = c.args.table.entries in
    sums c.args.table c.args.session c.args.repeats c.in_ok-rows.rows c.in_ok-text.text c.requires.columns c.requires.legal c.in_ok-rows.ensures
    (subst (λ (rows : List Row). c.in_ok-text.text ≡ lines_of (appends_of entries) c.args.repeats (length (visible_of entries)) (length rows) (sum_of rows)) c.as_slice.ensures c.in_ok-text.ensures)
