-- The laws, put together.
use Rattle.h2_record.specs.Faults.{fault_by}
use Rattle.h2_record.specs.Credits.{owed_of, kept_of}
use Rattle.h2_record.specs.Control.{control_of}
use Rattle.h2_record.specs.Events.{events_of}
use Rattle.conn_deferral.specs.Laws.{RulesAgree, DueByBoth, StaysDeferred, GivenAtOnce, GivenLate, LeftToGive}
use Rattle.conn_deferral.proofs.Frames.{fault}
use Rattle.conn_deferral.proofs.Credits.{control, owed, kept, events}
use Rattle.conn_deferral.proofs.Dues.{both, sound-both, live-both, send-both, connection-both, resets-both, control-both, written-both, defers-in, defers-whole, defers-broken, defers-given, defers-late, defers-ahead, defers-outs, all-due-over}

pub rules-agree : RulesAgree
rules-agree given decided same = record {
  sound = sound-both given decided same;
  fault = λ frame. both given decided same (λ r. fault_by r frame) (λ r. fault r frame);
  resets = resets-both given decided same;
  live = live-both given decided same;
  send = send-both given decided same;
  connection = connection-both given decided same;
  control = both given decided same control_of control;
  went = control-both given decided same;
  owed = both given decided same owed_of owed;
  kept = λ id. both given decided same (λ r. kept_of r id) (λ r. kept r id);
  events = λ frame. both given decided same (λ r. events_of r frame) (λ r. events r frame);
  written = written-both given decided same;
}

pub due-by-both : DueByBoth
due-by-both given decided left frames d due = (all-due-over given decided left frames d due, defers-outs given decided left frames d)

pub stays-deferred : StaysDeferred
stays-deferred given decided left d = (defers-in given decided left d, defers-whole given decided left d, defers-broken given decided left d)

pub given-at-once : GivenAtOnce
given-at-once given decided left stream part d none = defers-given given decided left d stream part none

pub given-late : GivenLate
given-late given decided left after stream part on next = defers-late given decided left on.defers stream part after on.ended on.others next

pub left-to-give : LeftToGive
left-to-give given decided left after stream part on more = defers-ahead given decided left on.defers stream part after on.ended on.others more
