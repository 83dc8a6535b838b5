-- What hinders the session refuses it; else the table is asked for the rows that are chosen.
use mir.Syntax.{w32}
use Rattle.std.proofs.Common.{sym, ap, subst, ◌∙◌, IfSome}
use Rattle.std.proofs.lemmas.Int.{to_z-of_z}
use Rattle.std.specs.Prelude.{◌<◌, length}
use Rattle.resource_names.specs.Table.{table_name_of}
use Rattle.table_model.specs.Rules.{first_refusal}
use Rattle.call_plans.specs.Sessions.{session_rules}
use Rattle.call_names.proofs.TableLemmas.{spec_there}
use Rattle.call_read.specs.Choosing.{Chooses}
use Rattle.call_read.proofs.SessionLemmas.{wants-hindered, wants-rows}
use Rattle.call_read.proofs.wanting.want.Goals as goal

pub returns-in-Some-hindrance : goal.returns-in-Some-hindrance
returns-in-Some-hindrance c =
    let within = subst (λ place. IfSome place (λ at. at < length c.args.tables.now)) c.in-Some-3.is c.in_ok-place.ensures.within in
    let there = spec_there c.args.tables.now c.in-Some-3.place within in
    let count = to_z-of_z w32 c.args.count c.ranges.count in
    wants-hindered c.args.tables.now c.args.session.now c.args.parent.now c.args.count c.in-Some.project (sym c.in-Some.is ∙ c.in_ok-project.ensures)
    c.in-Some-2.table (sym c.in-Some-2.is ∙ c.in_ok-table.ensures ∙ ap table_name_of c.text.ensures)
    c.in-Some-3.place (sym c.in-Some-3.is ∙ c.in_ok-place.ensures.place) there.0 there.1 c.in-Some-hindrance.cause
    (ap (λ n. first_refusal (session_rules c.args.session.now n)) (sym count) ∙ sym c.hindrance.ensures ∙ c.in-Some-hindrance.is)

pub returns-in-Rows : goal.returns-in-Rows
returns-in-Rows c =
    let within = subst (λ place. IfSome place (λ at. at < length c.args.tables.now)) c.in-Some-3.is c.in_ok-place.ensures.within in
    let count = to_z-of_z w32 c.args.count c.ranges.count in
    wants-rows c.args.tables.now c.args.session.now c.args.parent.now c.args.count c.in-Some.project (sym c.in-Some.is ∙ c.in_ok-project.ensures)
    c.in-Some-2.table (sym c.in-Some-2.is ∙ c.in_ok-table.ensures ∙ ap table_name_of c.text.ensures)
    c.in-Some-3.place (sym c.in-Some-3.is ∙ c.in_ok-place.ensures.place) c.spec-spec.result.now c.spec-spec.ensures
    (ap (λ n. first_refusal (session_rules c.args.session.now n)) (sym count) ∙ sym c.hindrance.ensures ∙ c.in_default-hindrance.is)
    c.in-Rows.fields c.in-Rows.pred c.snapshot_in.result within c.snapshot_in.ensures (subst (Chooses c.spec-spec.result.now.schema c.args.session.now) c.in-Rows.is c.in_ok-cause.ensures)
