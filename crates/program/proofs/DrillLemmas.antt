-- The text of a drill, and the line of `drill`.
use Rattle.std.proofs.Common.{◌≡◌, ℕ, ℤ, Bool, List, Option, sym, subst}
use Rattle.std.specs.Prelude.{Result}
use Rattle.command_line.specs.declared.line.CommandLine.{CommandLine}
use Rattle.command_line.specs.declared.line.CommandLine.TheVariants as line
use Rattle.call_body.specs.Steps.{WritesAll}
use Rattle.server.specs.Visits.{LinkShows}
use Rattle.program.specs.declared.drills.DrillFault.{DrillFault}
use Rattle.program.specs.Drill.{Drills, IsText, status_of_drill}
use Rattle.program.specs.Outside.{Objects, Shows}
use Rattle.program.specs.Runs.{RunsDrill, Runs}

-- a text was written
pub wrote : (text bytes : List ℕ) (taken0 taken : Option (List ℕ)) (faults0 faults : ℕ) (whole : Bool) → IsText text → bytes ≡ text → WritesAll taken0 taken faults0 faults bytes whole
    → (t : List ℕ) × IsText t × WritesAll taken0 taken faults0 faults t whole
wrote text bytes taken0 taken faults0 faults whole is same writes = (text, is, subst (λ (bs : List ℕ). WritesAll taken0 taken faults0 faults bs whole) same writes)

module _ {L D P C I O : Type 0} (shows : L → LinkShows) (clones : Option (List ℤ) → Type 0) (l : CommandLine) (n : ℕ)
    (old new : Objects D P C I O) (before after : Shows L) (status : ℕ) (end : Result (Unit {0}) DrillFault) where
  pub drilled_line : l ≡ line.Drill n → status ≡ status_of_drill end
      → Drills before.streams.taken after.streams.taken before.streams.sink_faults after.streams.sink_faults end
      → new.door ≡ old.door → new.pipe ≡ old.pipe → new.clock ≡ old.clock → new.input ≡ old.input
      → Runs shows clones l old new before after status
  drilled_line is status_is drills door pipe clock input =
      let runs : RunsDrill old new before after status = record {
        end = end;
        status_is = status_is;
        drills = drills;
        door = door;
        pipe = pipe;
        clock = clock;
        input = input;
      } in
      subst (λ (c : CommandLine). Runs shows clones c old new before after status) (sym is) runs
