-- The rules of a connection (RFC 9113 section 5.4.1), and the code of each where a frame breaks it. The first six
-- rules are those of framing, which h2_frames has.
use Rattle.std.specs.Prelude.{ℕ, ◌+◌, ◌-◌, ◌^◌, ◌%◌, ◌==◌, nat_lt, Bool, true, false, not, ◌&&◌, ◌||◌, List, [], ◌∷◌, length, Option, Some, None, ℤ, pos, ◌+ℤ◌, ◌-ℤ◌, int_lt, if◌then◌else◌}
use Rattle.std.specs.List.{list_any}
use Rattle.std.specs.Option.{option_or}
use Rattle.hpack_blocks.specs.Block.{Block}
use Rattle.h2_frames.specs.declared.frame.Frame.{Frame}
use Rattle.h2_frames.specs.declared.frame.Frame.TheVariants as frames
use Rattle.h2_frames.specs.declared.fault.H2Fault.{H2Fault}
use Rattle.h2_frames.specs.declared.pairs.Pair.{Pair}
use Rattle.h2_flow.specs.Range.{greatest}
use Rattle.h2_record.specs.declared.block.OpenBlock.{OpenBlock}
use Rattle.h2_record.specs.Codes.{protocol_error, flow_control_error, compression_error, enhance_your_calm}
use Rattle.h2_record.specs.Record.{Record}
use Rattle.h2_record.specs.Windows.{initial_window_size, initial_of, send_window_of}
use Rattle.h2_record.specs.Blocks.{reading_of}
use Rattle.h2_record.specs.Live.{is_idle_above}
use Rattle.h2_record.specs.Resets.{live_of}

-- the rule is broken, and this is its code
abbrev pub broken : (rule : ℕ) → Option ℕ → Option H2Fault
broken rule None = None
broken rule (Some code) = Some (record { code = code; rule = rule })

abbrev pub code_if : Bool → (code : ℕ) → Option ℕ
code_if holds code = if holds then Some code else None

-- rule 7: the first frame is SETTINGS without ACK (section 3.4)
abbrev pub is_settings : Frame → Bool
is_settings (frames.Settings acked pairs) = not acked
is_settings _ = false

abbrev pub preface_code : (begun : Bool) → Frame → Option ℕ
preface_code begun frame = code_if (not begun && not (is_settings frame)) protocol_error

-- rule 8: inside a header block there is nothing but its CONTINUATION, which is nowhere else (section 6.10)
abbrev pub is_outside : Option OpenBlock → Frame → Bool
is_outside None (frames.Continuation stream whole fragment) = true
is_outside None _ = false
is_outside (Some block) (frames.Continuation stream whole fragment) = not (block.stream == stream)
is_outside (Some block) _ = true

-- rule 9: SETTINGS_ENABLE_PUSH (2), SETTINGS_INITIAL_WINDOW_SIZE (4) and SETTINGS_MAX_FRAME_SIZE (5) have their
-- ranges; the first bad pair counts (section 6.5.2)
abbrev pub pair_code : Pair → Option ℕ
pair_code pair =
    if pair.id == 2 then code_if (nat_lt 1 pair.value) protocol_error
    else if pair.id == initial_window_size then code_if (nat_lt (2 ^ 31 - 1) pair.value) flow_control_error
    else if pair.id == 5 then code_if (nat_lt pair.value 16384 || nat_lt 16777215 pair.value) protocol_error
    else None

abbrev pub pairs_code : List Pair → Option ℕ
pairs_code [] = None
pairs_code (pair ∷ pairs) = option_or (pair_code pair) (pairs_code pairs)

abbrev pub settings_code : Frame → Option ℕ
settings_code (frames.Settings false pairs) = pairs_code pairs
settings_code _ = None

-- rule 10: no live stream's send window passes the greatest by a changed initial size (section 6.9.2)
abbrev pub passes_greatest : Record → (initial : ℕ) → Bool
passes_greatest r initial = list_any (λ id. int_lt greatest ((send_window_of r id -ℤ pos (initial_of r)) +ℤ pos initial)) (live_of r)

abbrev pub pair_passes : Record → Pair → Bool
pair_passes r pair = pair.id == initial_window_size && passes_greatest r pair.value

abbrev pub shift_code : Record → Frame → Option ℕ
shift_code r (frames.Settings false pairs) = code_if (list_any (pair_passes r) pairs) flow_control_error
shift_code r _ = None

-- rule 11: a client's ids are odd (section 5.1.1)
abbrev pub even_code : Frame → Option ℕ
even_code (frames.Headers stream ended whole fragment) = code_if (stream % 2 == 0) protocol_error
even_code _ = None

-- rule 12: DATA, RST_STREAM and WINDOW_UPDATE are on no idle stream (section 5.1)
abbrev pub idle_code : (last : ℕ) → Frame → Option ℕ
idle_code last (frames.Body stream ended bytes counted) = code_if (is_idle_above last stream) protocol_error
idle_code last (frames.Reset stream code) = code_if (is_idle_above last stream) protocol_error
idle_code last (frames.Window stream add) = code_if (not (stream == 0) && is_idle_above last stream) protocol_error
idle_code last _ = None

-- rule 13: WINDOW_UPDATE on the connection isn't 0 (section 6.9)
abbrev pub zero_code : Frame → Option ℕ
zero_code (frames.Window stream add) = code_if (stream == 0 && add == 0) protocol_error
zero_code _ = None

-- rule 14: the connection's send window doesn't pass the greatest (section 6.9.1)
abbrev pub grant_code : (window : ℤ) → Frame → Option ℕ
grant_code window (frames.Window stream add) = code_if (stream == 0 && int_lt greatest (window +ℤ pos add)) flow_control_error
grant_code window _ = None

-- rule 15: a whole header block is in the grammar of HPACK (section 4.3)
abbrev pub reading_code : Block → Option ℕ
reading_code None = Some compression_error
reading_code (Some read) = None

abbrev pub block_code : Record → Option OpenBlock → Option ℕ
block_code r None = None
block_code r (Some block) = reading_code (reading_of r block)

-- rule 16: a header block has at most 65,536 bytes and 64 CONTINUATION frames
abbrev pub is_large : OpenBlock → Bool
is_large block = nat_lt 65536 (length block.bytes) || nat_lt 64 block.continuations

abbrev pub size_code : Option OpenBlock → Option ℕ
size_code None = None
size_code (Some block) = code_if (is_large block) enhance_your_calm

abbrev pub first_broken : List (Option H2Fault) → Option H2Fault
first_broken [] = None
first_broken (rule ∷ rules) = option_or rule (first_broken rules)
