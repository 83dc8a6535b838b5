use Rattle.std.proofs.Common.{◌≡◌, ◌<◌, length, get_or, ap, sym, ◌∙◌, subst, arith, List}
use Rattle.std.specs.List.{remove}
use Rattle.turn_table.specs.View.{IsOf}
use Rattle.open_tables.specs.Tables.{TableView, specs_of}
use Rattle.open_tables.proofs.TableLemmas.{length-theirs, theirs_at, IsActed, acted}
use Rattle.open_tables.proofs.LookLemmas.{looks, looks-sees}
use Rattle.open_tables.proofs.tables.Tables.look.Given.{Over}
use Rattle.open_tables.proofs.tables.Tables.look.Goals as goal

pub remove-pass-requires : goal.remove-pass-requires
remove-pass-requires g c =
    let same = length-theirs c.args.self.now c.args.passes c.requires.theirs in
    let inside : c.args.place < length c.args.passes = rw same c.requires.place in
    let items : length c.passes.inside.each.items ≡ length c.args.passes = ap (λ (passes : List TableView). length passes) c.passes.view_is in
    omega (arith, inside, items, c.passes.inside.each.ok)

pub look-pass-requires : goal.look-pass-requires
look-pass-requires g c =
    let r = c.remove-pass.result in
    let taken : r ≡ get_or c.args.passes c.args.place r = c.remove-pass.ensures.value ∙ ap (λ passes. get_or passes c.args.place r) c.passes.view_is in
    let P : TableView → Type 0 = λ view. IsOf c.turn.result.now view in
    record { theirs = subst P (sym taken) (theirs_at c.args.self.now c.args.passes c.args.place c.turn.result.now r c.requires.theirs c.requires.place c.turn.ensures.turn) }

-- the passes behind the look
is_acted : (g : Over) (c : goal.After-put_back g) → IsActed c.args.self.now c.args.passes c.put_back.new.each.items c.args.place c.remove-pass.result c.look-pass.result.0
is_acted g c =
    let r = c.remove-pass.result in
    let taken : r ≡ get_or c.args.passes c.args.place r = c.remove-pass.ensures.value ∙ ap (λ passes. get_or passes c.args.place r) c.passes.view_is in
    let without : c.remove-pass.new.self.items ≡ remove c.args.passes c.args.place = c.remove-pass.ensures.items ∙ ap (λ passes. remove passes c.args.place) c.passes.view_is in
    acted c.args.self.now c.args.passes _ _ c.args.place c.turn.result.now r c.look-pass.result.0 c.requires.theirs c.requires.place c.turn.ensures.turn c.turn.ensures.columns taken without
    c.put_back.ensures c.look-pass.ensures.theirs

pub returns-clause-theirs : goal.returns-clause-theirs
returns-clause-theirs g c = let is = is_acted g c in is.is_of

pub returns-clause-looks : goal.returns-clause-looks
returns-clause-looks g c =
    let is = is_acted g c in
    looks (specs_of c.args.self.now) c.args.passes _ c.args.place c.remove-pass.result c.look-pass.result.0 (record { session = c.args.session; node = c.args.node }) is.found is.behind is.has c.look-pass.result.1 c.look-pass.ensures.looks

pub returns-clause-sees : goal.returns-clause-sees
returns-clause-sees g c =
    let is = is_acted g c in
    looks-sees (specs_of c.args.self.now) c.args.passes _ c.args.place c.remove-pass.result c.look-pass.result.0 (record { session = c.args.session; node = c.args.node }) is.found is.behind is.has c.look-pass.result.1 c.look-pass.ensures.looks
