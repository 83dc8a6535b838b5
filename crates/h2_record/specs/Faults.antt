-- The connection errors (RFC 9113 section 5.4.1): the first frame that breaks a rule, and of its rules the least. The
-- first six rules are those of framing, which h2_frames has.
use Rattle.std.specs.Prelude.{ℕ, ◌+◌, ◌==◌, nat_le, Bool, true, false, not, ◌&&◌, [], ◌∷◌, Option, Some, None, if◌then◌else◌}
use Rattle.std.specs.Option.{option_or}
use Rattle.h2_frames.specs.declared.frame.Frame.{Frame}
use Rattle.h2_frames.specs.declared.frame.Frame.TheVariants as frames
use Rattle.h2_frames.specs.declared.fault.H2Fault.{H2Fault}
use Rattle.h2_record.specs.Codes.{protocol_error, enhance_your_calm}
use Rattle.h2_record.specs.Record.{Record, In, Whole, Broken, has_begun}
use Rattle.h2_record.specs.Windows.{connection_window_of}
use Rattle.h2_record.specs.Ids.{last_of}
use Rattle.h2_record.specs.Blocks.{open_of, block_with, whole_block}
use Rattle.h2_record.specs.Rules.{broken, code_if, preface_code, is_outside, settings_code, shift_code, even_code, idle_code, zero_code, grant_code, block_code, size_code, first_broken}

-- rule 17: at most 100,000 frames that ask for nothing come in a row
abbrev pub most_flood : ℕ
most_flood = 100000

abbrev pub is_flood : Frame → Bool
is_flood (frames.Body stream ended bytes counted) = counted == 0 && not ended
is_flood (frames.Priority stream) = true
is_flood (frames.Reset stream code) = true
is_flood (frames.Settings acked pairs) = not acked
is_flood (frames.Ping acked octets) = not acked
is_flood (frames.Unknown kind stream) = true
is_flood _ = false

-- such frames since the latest that made a request whole
abbrev pub flood_of : Record → ℕ
flood_of [] = 0
flood_of (In frame ∷ r) = if is_flood frame then flood_of r + 1 else flood_of r
flood_of (Whole ∷ r) = 0
flood_of (_ ∷ r) = flood_of r

abbrev pub flood_code : (flood : ℕ) → Frame → Option ℕ
flood_code flood frame = code_if (is_flood frame && nat_le most_flood flood) enhance_your_calm

-- the least rule that a frame breaks
unfoldable pub fault_by : Record → Frame → Option H2Fault
fault_by r frame = first_broken (
    broken 7 (preface_code (has_begun r) frame)
    ∷ broken 8 (code_if (is_outside (open_of r) frame) protocol_error)
    ∷ broken 9 (settings_code frame)
    ∷ broken 10 (shift_code r frame)
    ∷ broken 11 (even_code frame)
    ∷ broken 12 (idle_code (last_of r) frame)
    ∷ broken 13 (zero_code frame)
    ∷ broken 14 (grant_code (connection_window_of r) frame)
    ∷ broken 15 (block_code r (whole_block r frame))
    ∷ broken 16 (size_code (block_with r frame))
    ∷ broken 17 (flood_code (flood_of r) frame)
    ∷ [])

-- the first fault of a connection
abbrev pub first_fault_of : Record → Option H2Fault
first_fault_of [] = None
first_fault_of (In frame ∷ r) = option_or (first_fault_of r) (fault_by r frame)
first_fault_of (Broken fault ∷ r) = option_or (first_fault_of r) (Some fault)
first_fault_of (_ ∷ r) = first_fault_of r
