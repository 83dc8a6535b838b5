-- The rules of a connection in two parts: those that a frame is tested by before it changes anything, and the others.
use Rattle.std.specs.Prelude.{ℕ, Bool, [], ◌∷◌, Option}
use Rattle.h2_frames.specs.declared.frame.Frame.{Frame}
use Rattle.h2_frames.specs.declared.fault.H2Fault.{H2Fault}
use Rattle.h2_record.specs.declared.block.OpenBlock.{OpenBlock}
use Rattle.h2_record.specs.Codes.{protocol_error}
use Rattle.h2_record.specs.Record.{Record}
use Rattle.h2_record.specs.Windows.{connection_window_of}
use Rattle.h2_record.specs.Blocks.{whole_block, block_with}
use Rattle.h2_record.specs.Faults.{flood_code, flood_of}
use Rattle.h2_record.specs.Rules.{broken, code_if, first_broken, preface_code, is_outside, settings_code, even_code, idle_code, zero_code, grant_code, shift_code, block_code, size_code}

-- The rules that are tested before a frame changes anything: all but those of send windows, those of whole blocks, and
-- the count of frames that ask for nothing.
unfoldable pub early_fault : (begun : Bool) → Option OpenBlock → (last : ℕ) → Frame → Option H2Fault
early_fault begun block last frame = first_broken (
    broken 7 (preface_code begun frame)
    ∷ broken 8 (code_if (is_outside block frame) protocol_error)
    ∷ broken 9 (settings_code frame)
    ∷ broken 11 (even_code frame)
    ∷ broken 12 (idle_code last frame)
    ∷ broken 13 (zero_code frame)
    ∷ [])

-- the other rules
unfoldable pub late_fault : Record → Frame → Option H2Fault
late_fault r frame = first_broken (
    broken 10 (shift_code r frame)
    ∷ broken 14 (grant_code (connection_window_of r) frame)
    ∷ broken 15 (block_code r (whole_block r frame))
    ∷ broken 16 (size_code (block_with r frame))
    ∷ broken 17 (flood_code (flood_of r) frame)
    ∷ [])
