-- The tests that were passed, as facts on the columns.
use Rattle.std.proofs.Common.{◌<◌, length, sym, arith}
use Rattle.std.specs.Prelude.{IsTrue}
use Rattle.std.specs.List.{list_all}
use Rattle.std.proofs.lemmas.Grind.{common_steps}
use Rattle.column_types.specs.Schema.{is_well_named}
use Rattle.column_types.proofs.ListLemmas.{list_all-position}
use Rattle.column_types.proofs.schema.fault_of.Goals as goal

pub returns-in-Some-first_repeat : goal.returns-in-Some-first_repeat
returns-in-Some-first_repeat c =
    let named : IsTrue (list_all is_well_named c.args.columns.now) = list_all-position is_well_named c.args.columns.now (sym c.in_default.ensures) in
    let some : 0 < length c.args.columns.now = grind (arith, common_steps, c.if-is_empty.ensures) in
    (some, c.if-count-gt-MAX_COLUMNS.false, named, c.in-Some-first_repeat.ensures)

pub returns-in-None : goal.returns-in-None
returns-in-None c =
    let some : 0 < length c.args.columns.now = grind (arith, common_steps, c.if-is_empty.ensures) in
    record {
      some = some;
      most = c.if-count-gt-MAX_COLUMNS.false;
      named = list_all-position is_well_named c.args.columns.now (sym c.in_default.ensures);
      distinct = c.in-None.ensures;
    }
