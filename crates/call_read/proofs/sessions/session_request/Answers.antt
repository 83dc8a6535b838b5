-- Without a session no table is named.
use Rattle.std.proofs.Common.{sym, Ok}
use Rattle.table_model.specs.declared.reasons.Why.TheVariants as why
use Rattle.open_tables.specs.Tables.{specs_of}
use Rattle.call_plans.specs.Endings.{refused_for}
use Rattle.call_plans.specs.Sessions.{create_session_by}
use Rattle.call_read.proofs.ReadLemmas.{gets-fixed}
use Rattle.call_read.proofs.SessionLemmas.{no_session-asks}
use Rattle.call_read.proofs.sessions.session_request.Goals as goal

pub returns-in-None-clause-gets : goal.returns-in-None-clause-gets
returns-in-None-clause-gets g c =
    gets-fixed c.args.passes c.args.now (create_session_by (specs_of c.args.tables.now) (Ok c.args.request.now)) (refused_for why.BadName) c.refused_for.result
    (no_session-asks (specs_of c.args.tables.now) c.args.request.now (sym c.in-None.is)) c.refused_for.ensures
