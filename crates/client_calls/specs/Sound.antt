-- That a client's bytes break no rule of a connection (RFC 9113 section 5.4.1), whatever goes the other way and whatever
-- is answered meanwhile.
use Rattle.std.specs.Prelude.{◌≡◌, ℕ, false, List, ◌++◌, None}
use Rattle.h2_frames.specs.declared.fault.H2Fault.{H2Fault}
use Rattle.h2_frames.specs.declared.frame.Frame.{Frame}
use Rattle.h2_frames.specs.declared.reader.Next.TheVariants as next
use Rattle.h2_frames.specs.Held.{Held}
use Rattle.h2_frames.specs.Reading.{next_of}
use Rattle.h2_frames.specs.Run.{Event, Leads, nothing_held, stream_of}
use Rattle.h2_record.specs.Record.{Record}
use Rattle.h2_record.specs.Faults.{first_fault_of}
use Rattle.conn_record.specs.Timeline.{is_broken}
use Rattle.conn_record.specs.Read.{came_in}

-- However they come in pieces, a reader of frames that was fed a front of them finds no rule of framing broken.
abbrev pub FindsNoFault : List ℕ → Type 0
FindsNoFault bytes = (events : List Event) (now : Held) (later : List ℕ) (fault : H2Fault) → Leads events nothing_held now
    → stream_of events ++ later ≡ bytes → next_of now ≡ next.Fault fault → ⊥

-- these frames came, no rule of framing was broken, and the others are to come
pub record IsAt (r : Record) (sent later : List Frame) : Type 0 where
  pub unbroken : is_broken r ≡ false
  pub came : came_in r ++ later ≡ sent

-- Wherever a record stands among these frames, none of those that came broke a rule.
abbrev pub BreaksNoRule : List Frame → Type 0
BreaksNoRule sent = (r : Record) (later : List Frame) → IsAt r sent later → first_fault_of r ≡ None
