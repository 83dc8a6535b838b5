use mir.Syntax.{w64}
use mir.Val.{to_z, of_z}
use Rattle.std.proofs.Common.{◌≡◌, ◌<◌, length, rules}
use Rattle.std.proofs.lemmas.List.{length-map}
use Rattle.table_model.specs.declared.commands.Command.TheVariants as command
use Rattle.open_tables.specs.Tables.{OpenTable, specs_of}
use Rattle.open_tables.specs.Plans.{on_command, on_stream}
use Rattle.open_tables.specs.Found.{is_found}
use Rattle.open_tables.proofs.TableLemmas.{some_at}
use Rattle.open_tables.proofs.PlanLemmas.{gets-same, loses-same, get_is_on_stream}
use Rattle.open_tables.proofs.tables.Tables.has_stream.Goals as goal

pub returns-in-Ok-clause-gets : goal.returns-in-Ok-clause-gets
returns-in-Ok-clause-gets g c = λ told.
    let same : to_z w64 (of_z w64 c.args.now) ≡ c.args.now = search rules in
    let inside : c.args.place < length (specs_of c.args.self.now) = rw (length-map c.args.self.now (λ (table : OpenTable). table.0)) c.requires.place in
    let at = some_at (specs_of c.args.self.now) c.args.place inside in
    let answered = rw c.in-Ok.is at c.act-passes.ensures.gets in
    let gets = rw same at answered in
    rw c.is_found.ensures
    (gets-same c.args.passes c.args.place (on_command at.0.schema (command.Get c.args.stream) (λ reply. told (is_found reply))) (on_stream c.args.stream told)
    (get_is_on_stream told at.0.schema c.args.stream) c.args.now c.act-passes.result.0 _ (gets at.0 at.1 (λ reply. told (is_found reply))))

pub returns-in-Ok-clause-loses : goal.returns-in-Ok-clause-loses
returns-in-Ok-clause-loses g c = λ told.
    let same : to_z w64 (of_z w64 c.args.now) ≡ c.args.now = search rules in
    let inside : c.args.place < length (specs_of c.args.self.now) = rw (length-map c.args.self.now (λ (table : OpenTable). table.0)) c.requires.place in
    let at = some_at (specs_of c.args.self.now) c.args.place inside in
    let loses = rw same at c.act-passes.ensures.loses in
    loses-same c.args.passes c.args.place (on_command at.0.schema (command.Get c.args.stream) (λ reply. told (is_found reply))) (on_stream c.args.stream told)
    (get_is_on_stream told at.0.schema c.args.stream) c.args.now c.act-passes.result.0 (loses at.0 at.1 (λ reply. told (is_found reply)))

pub returns-in-Err-clause-loses : goal.returns-in-Err-clause-loses
returns-in-Err-clause-loses g c = λ told.
    let same : to_z w64 (of_z w64 c.args.now) ≡ c.args.now = search rules in
    let inside : c.args.place < length (specs_of c.args.self.now) = rw (length-map c.args.self.now (λ (table : OpenTable). table.0)) c.requires.place in
    let at = some_at (specs_of c.args.self.now) c.args.place inside in
    let loses = rw same at c.act-passes.ensures.loses in
    loses-same c.args.passes c.args.place (on_command at.0.schema (command.Get c.args.stream) (λ reply. told (is_found reply))) (on_stream c.args.stream told)
    (get_is_on_stream told at.0.schema c.args.stream) c.args.now c.act-passes.result.0 (loses at.0 at.1 (λ reply. told (is_found reply)))
