-- Each is a lemma.
use Rattle.conn_record.proofs.Fronts.{texts-are-fronts, control-is-front, resets-are-fronts, due-in-place, data-within-windows, due-goes-on}
use Rattle.conn_record.proofs.ControlKinds.{only-server-frames}
use Rattle.conn_record.proofs.Giving.{live-text-goes-on}
use Rattle.conn_record.proofs.laws.frames_keep_order.Goals as goal

pub returns-clause-texts : goal.returns-clause-texts
returns-clause-texts c = texts-are-fronts

pub returns-clause-control : goal.returns-clause-control
returns-clause-control c = control-is-front

pub returns-clause-resets : goal.returns-clause-resets
returns-clause-resets c = resets-are-fronts

pub returns-clause-place : goal.returns-clause-place
returns-clause-place c = due-in-place

pub returns-clause-kinds : goal.returns-clause-kinds
returns-clause-kinds c = only-server-frames

pub returns-clause-windows : goal.returns-clause-windows
returns-clause-windows c = data-within-windows

pub returns-clause-goes_on : goal.returns-clause-goes_on
returns-clause-goes_on c = due-goes-on

pub returns-clause-live : goal.returns-clause-live
returns-clause-live c = live-text-goes-on
