-- What is heard of one frame, and what it leaves.
use Rattle.std.specs.Prelude.{◌≡◌, ℕ, ℤ, List, ◌∷◌, ◌++◌, Option, Some, None}
use Rattle.h2_frames.specs.declared.frame.Frame.{Frame}
use Rattle.h2_record.specs.Record.{Record, In}
use Rattle.h2_record.specs.Faults.{first_fault_of, fault_by}
use Rattle.h2_record.specs.Written.{EachWasDue}
use Rattle.conn_deferral.specs.Deferred.{Dealing, Deals}
use Rattle.open_tables.specs.Tables.{TableView}
use Rattle.conn_record.specs.Giving.{EachWasGiven}
use Rattle.conn_requests.specs.Decided.{Answered, Played, play}
use Rattle.conn_service.specs.Served.{Planning}
use Rattle.conn_service.specs.Quiet.{IsAnswered}
use Rattle.conn_service.specs.Going.{Kept, kept_of, IsLeftOf, resumed}
use Rattle.conn_service.specs.Steps.{Heeded, HeededInPart}
use Rattle.conn_calls.specs.declared.heard.Heard.{Heard}
use Rattle.conn_calls.specs.declared.heard.Heard.TheVariants as heard

-- A connection and the calls that are kept stand for what these frames decide with the answers so far, whatever answers
-- follow. No rule is broken, and all that was decided is answered.
pub record IsAt (p : Played) (conn : Dealing) (kept : ℕ → Option Kept) : Type 0 where
  pub frames : Record
  pub plays : (later : List Answered) → play (p.used ++ later) frames ≡ resumed p later
  pub deals : Deals conn p.marked
  pub left : IsLeftOf p conn.left
  pub calls : (id : ℕ) → kept id ≡ kept_of p.used id (p.calls id)
  pub sound : first_fault_of p.marked ≡ None
  pub answered : IsAnswered p
  pub was_open : EachWasGiven p.marked
  pub was_due : EachWasDue p.marked

-- All that the frame decided is answered; or it broke this rule, and decided nothing; or memory was wanting.
abbrev pub Heeds : Heard → Planning → Frame → Played → (passes after : List TableView) (conn : Dealing) (kept : ℕ → Option Kept) (readings0 readings : Option (List ℤ)) → Type 0
Heeds heard.Goes plan frame p passes after conn kept readings0 readings = Heeded plan frame p passes after conn kept readings0 readings
Heeds (heard.Breaks fault) plan frame p passes after conn kept readings0 readings =
    (fault_by p.marked frame ≡ Some fault) × Deals conn (In frame ∷ p.marked) × (after ≡ passes) × (readings ≡ readings0)
Heeds heard.Memory plan frame p passes after conn kept readings0 readings = HeededInPart plan frame p passes after readings0 readings
