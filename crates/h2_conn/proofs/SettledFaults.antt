-- A settled connection tests the early rules of its record, and the late ones are left.
use Rattle.std.proofs.Common.{◌≡◌, None, Some, sym, ap, ◌∙◌}
use Rattle.std.specs.Option.{option_or}
use Rattle.h2_frames.specs.declared.frame.Frame.{Frame}
use Rattle.h2_frames.specs.declared.fault.H2Fault.{H2Fault}
use Rattle.h2_record.specs.Record.{Record, has_begun}
use Rattle.h2_record.specs.Ids.{last_of}
use Rattle.h2_record.specs.Blocks.{open_of}
use Rattle.h2_record.specs.Faults.{fault_by}
use Rattle.h2_conn.specs.Held.{Held}
use Rattle.h2_record.specs.Early.{early_fault, late_fault}
use Rattle.h2_conn.specs.Taking.{early_of, Settled}
use Rattle.h2_record.proofs.FaultSplit.{fault-split}

-- a settled connection tests the early rules of its record
pub early-settled : (c : Held) (r : Record) (frame : Frame) → Settled c r → early_of c frame ≡ early_fault (has_begun r) (open_of r) (last_of r) frame
early-settled c r frame s =
    ap (λ begun. early_fault begun c.block c.streams.last frame) s.begun
    ∙ ap (λ block. early_fault (has_begun r) block c.streams.last frame) s.block
    ∙ ap (λ last. early_fault (has_begun r) (open_of r) last frame) s.streams.last

-- an early rule that is broken is the least
pub breaks-early : (c : Held) (r : Record) (frame : Frame) (fault : H2Fault) → Settled c r → early_of c frame ≡ Some fault → fault_by r frame ≡ Some fault
breaks-early c r frame fault s e = fault-split r frame ∙ ap (λ early. option_or early (late_fault r frame)) (sym (early-settled c r frame s) ∙ e)

-- where none is broken, the late ones are left
pub breaks-late : (c : Held) (r : Record) (frame : Frame) → Settled c r → early_of c frame ≡ None → fault_by r frame ≡ late_fault r frame
breaks-late c r frame s e = fault-split r frame ∙ ap (λ early. option_or early (late_fault r frame)) (sym (early-settled c r frame s) ∙ e)
