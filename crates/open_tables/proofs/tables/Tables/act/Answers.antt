use mir.Syntax.{w64}
use mir.Val.{to_z, of_z}
use Rattle.std.proofs.Common.{◌≡◌, ◌<◌, length, get_or, ap, sym, ◌∙◌, subst, rules, arith, List}
use Rattle.std.specs.List.{remove}
use Rattle.std.proofs.lemmas.List.{length-map}
use Rattle.turn_table.specs.View.{IsOf}
use Rattle.open_tables.specs.Tables.{TableView, OpenTable, specs_of}
use Rattle.open_tables.proofs.TableLemmas.{length-theirs, theirs_at, takes_at, IsActed, acted}
use Rattle.open_tables.proofs.PlanLemmas.{gets, sees, loses}
use Rattle.open_tables.proofs.tables.Tables.act.Given.{Over}
use Rattle.open_tables.proofs.tables.Tables.act.Goals as goal

pub remove-pass-requires : goal.remove-pass-requires
remove-pass-requires g c =
    let same = length-theirs c.args.self.now c.args.passes c.requires.theirs in
    let inside : c.args.place < length c.args.passes = rw same c.requires.place in
    let items : length c.passes.inside.each.items ≡ length c.args.passes = ap (λ (passes : List TableView). length passes) c.passes.view_is in
    omega (arith, inside, items, c.passes.inside.each.ok)

pub act-pass-requires-clause-theirs : goal.act-pass-requires-clause-theirs
act-pass-requires-clause-theirs g c =
    let r = c.remove-pass.result in
    let taken : r ≡ get_or c.args.passes c.args.place r = c.remove-pass.ensures.value ∙ ap (λ passes. get_or passes c.args.place r) c.passes.view_is in
    let P : TableView → Type 0 = λ view. IsOf c.turn.result.now view in
    subst P (sym taken) (theirs_at c.args.self.now c.args.passes c.args.place c.turn.result.now r c.requires.theirs c.requires.place c.turn.ensures.turn)

pub act-pass-requires-clause-taken : goal.act-pass-requires-clause-taken
act-pass-requires-clause-taken g c =
    let r = c.remove-pass.result in
    let taken : r ≡ get_or c.args.passes c.args.place r = c.remove-pass.ensures.value ∙ ap (λ passes. get_or passes c.args.place r) c.passes.view_is in
    let P : TableView → Type 0 = λ view. IsOf c.turn.result.now view in
    let is_of : IsOf c.turn.result.now r = subst P (sym taken) (theirs_at c.args.self.now c.args.passes c.args.place c.turn.result.now r c.requires.theirs c.requires.place c.turn.ensures.turn) in
    let inside : c.args.place < length (specs_of c.args.self.now) = rw (length-map c.args.self.now (λ (table : OpenTable). table.0)) c.requires.place in
    rw is_of.same (takes_at (specs_of c.args.self.now) c.args.place c.turn.result.now.fixed c.args.command inside c.turn.ensures.columns c.requires.taken)

-- the passes behind the act
is_acted : (g : Over) (c : goal.After-put_back g) → IsActed c.args.self.now c.args.passes c.put_back.new.each.items c.args.place c.remove-pass.result c.act-pass.result.0
is_acted g c =
    let r = c.remove-pass.result in
    let taken : r ≡ get_or c.args.passes c.args.place r = c.remove-pass.ensures.value ∙ ap (λ passes. get_or passes c.args.place r) c.passes.view_is in
    let without : c.remove-pass.new.self.items ≡ remove c.args.passes c.args.place = c.remove-pass.ensures.items ∙ ap (λ passes. remove passes c.args.place) c.passes.view_is in
    acted c.args.self.now c.args.passes _ _ c.args.place c.turn.result.now r c.act-pass.result.0 c.requires.theirs c.requires.place c.turn.ensures.turn c.turn.ensures.columns taken without
    c.put_back.ensures c.act-pass.ensures.theirs

pub returns-clause-theirs : goal.returns-clause-theirs
returns-clause-theirs g c = let is = is_acted g c in is.is_of

pub returns-clause-gets : goal.returns-clause-gets
returns-clause-gets g c =
    let is = is_acted g c in
    let same : to_z w64 (of_z w64 c.args.now) ≡ c.args.now = search rules in
    gets g.row.A.Denot (specs_of c.args.self.now) c.args.passes _ c.args.place c.remove-pass.result c.act-pass.result.0 c.args.command c.args.now is.found is.behind is.has c.act-pass.result.1
    (rw same at c.act-pass.ensures.acts)

pub returns-clause-sees : goal.returns-clause-sees
returns-clause-sees g c =
    let is = is_acted g c in
    let same : to_z w64 (of_z w64 c.args.now) ≡ c.args.now = search rules in
    sees g.row.A.Denot (specs_of c.args.self.now) c.args.passes _ c.args.place c.remove-pass.result c.act-pass.result.0 c.args.command c.args.now is.found is.behind is.has c.act-pass.result.1
    (rw same at c.act-pass.ensures.acts)

pub returns-clause-loses : goal.returns-clause-loses
returns-clause-loses g c =
    let is = is_acted g c in
    let same : to_z w64 (of_z w64 c.args.now) ≡ c.args.now = search rules in
    loses g.row.A.Denot (specs_of c.args.self.now) c.args.passes _ c.args.place c.remove-pass.result c.act-pass.result.0 c.args.command c.args.now is.found is.behind is.has c.act-pass.result.1
    (rw same at c.act-pass.ensures.acts)
