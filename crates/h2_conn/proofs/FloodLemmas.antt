-- Frames that ask for nothing: one too many is a connection error.
use Rattle.std.proofs.Common.{◌≡◌, ℕ, ◌+◌, ◌∷◌, Option, None, Some, sym, ap, ◌∙◌, if◌then◌else◌}
use Rattle.std.specs.Option.{option_or}
use Rattle.h2_frames.specs.declared.frame.Frame.{Frame}
use Rattle.h2_frames.specs.declared.fault.H2Fault.{H2Fault}
use Rattle.h2_record.specs.Record.{Record, In}
use Rattle.h2_record.specs.Faults.{fault_by, flood_code, flood_of, is_flood}
use Rattle.h2_record.specs.Rules.{broken}
use Rattle.h2_conn.specs.Held.{Held}
use Rattle.h2_conn.specs.Taking.{early_of, Settled, Fails}
use Rattle.h2_record.specs.Early.{late_fault}
use Rattle.h2_conn.proofs.SettledFaults.{breaks-late}

-- the only late rule of a frame that speaks of no window and of no header block
abbrev pub flood_fault : Record → Frame → Option H2Fault
flood_fault r frame = option_or (broken 17 (flood_code (flood_of r) frame)) None

pub fails-flood : (c : Held) (r : Record) (frame : Frame) (fault : H2Fault) → Settled c r → early_of c frame ≡ None → late_fault r frame ≡ flood_fault r frame
    → broken 17 (flood_code c.flood frame) ≡ Some fault → Fails r frame fault c
fails-flood c r frame fault s early late over = record {
  breaks = breaks-late c r frame s early ∙ late ∙ ap (λ flood. option_or (broken 17 (flood_code flood frame)) None) (sym s.flood) ∙ ap (λ fault. option_or fault None) over;
  controls = s.controls;
  last = s.streams.last;
  headed = s.headed;
}

pub sound-flood : (c : Held) (r : Record) (frame : Frame) → Settled c r → early_of c frame ≡ None → late_fault r frame ≡ flood_fault r frame
    → flood_code c.flood frame ≡ None → fault_by r frame ≡ None
sound-flood c r frame s early late within =
    breaks-late c r frame s early ∙ late ∙ ap (λ flood. option_or (broken 17 (flood_code flood frame)) None) (sym s.flood) ∙ ap (λ code. option_or (broken 17 code) None) within

-- it is counted
pub count-flood : (c : Held) (r : Record) (frame : Frame) (more : ℕ) → Settled c r → more ≡ (if is_flood frame then c.flood + 1 else c.flood) → more ≡ flood_of (In frame ∷ r)
count-flood c r frame more s count = count ∙ ap (λ flood. if is_flood frame then flood + 1 else flood) s.flood
