-- The rules of a connection are the early ones and the late ones.
use Rattle.std.proofs.Common.{◌≡◌, true, false, Option, None, Some, refl}
use Rattle.std.specs.Option.{option_or}
use Rattle.h2_frames.specs.declared.frame.Frame.{Frame}
use Rattle.h2_frames.specs.declared.frame.Frame.TheVariants as frames
use Rattle.h2_frames.specs.declared.fault.H2Fault.{H2Fault}
use Rattle.h2_record.specs.Record.{Record, has_begun}
use Rattle.h2_record.specs.Ids.{last_of}
use Rattle.h2_record.specs.Blocks.{open_of}
use Rattle.h2_record.specs.Faults.{fault_by}
use Rattle.h2_record.specs.Rules.{broken, code_if, preface_code, is_outside, settings_code, even_code, idle_code, zero_code}
use Rattle.h2_record.specs.Early.{early_fault, late_fault}

-- the first five of six, and the last
or-split : (a b c d e x : Option H2Fault)
    → option_or a (option_or b (option_or c (option_or d (option_or e x)))) ≡ option_or (option_or a (option_or b (option_or c (option_or d (option_or e None))))) x
or-split (Some y) b c d e x = refl
or-split None (Some y) c d e x = refl
or-split None None (Some y) d e x = refl
or-split None None None (Some y) e x = refl
or-split None None None None (Some y) x = refl
or-split None None None None None x = refl

module _ (r : Record) where
  first : Frame → Option H2Fault
  first frame = broken 7 (preface_code (has_begun r) frame)

  second : Frame → Option H2Fault
  second frame = broken 8 (code_if (is_outside (open_of r) frame) 1)

  early : Frame → Option H2Fault
  early frame = early_fault (has_begun r) (open_of r) (last_of r) frame

  pub fault-split : (frame : Frame) → fault_by r frame ≡ option_or (early_fault (has_begun r) (open_of r) (last_of r) frame) (late_fault r frame)
  unfolding fault_by early_fault late_fault first second
  fault-split (frames.Body stream ended bytes counted) =
      let f = frames.Body stream ended bytes counted in or-split (first f) (second f) (broken 12 (idle_code (last_of r) f)) None None (late_fault r f)
  fault-split (frames.Headers stream ended whole block) =
      let f = frames.Headers stream ended whole block in or-split (first f) (second f) (broken 11 (even_code f)) None None (late_fault r f)
  fault-split (frames.Priority stream) = let f = frames.Priority stream in or-split (first f) (second f) None None None (late_fault r f)
  fault-split (frames.Reset stream code) = let f = frames.Reset stream code in or-split (first f) (second f) (broken 12 (idle_code (last_of r) f)) None None (late_fault r f)
  fault-split (frames.Settings false pairs) = let f = frames.Settings false pairs in or-split (first f) (second f) (broken 9 (settings_code f)) None None (late_fault r f)
  fault-split (frames.Settings true pairs) = let f = frames.Settings true pairs in or-split (first f) (second f) None None None (late_fault r f)
  fault-split (frames.Push stream) = let f = frames.Push stream in or-split (first f) (second f) None None None (late_fault r f)
  fault-split (frames.Ping acked octets) = let f = frames.Ping acked octets in or-split (first f) (second f) None None None (late_fault r f)
  fault-split (frames.Goaway last code) = let f = frames.Goaway last code in or-split (first f) (second f) None None None (late_fault r f)
  fault-split (frames.Window stream add) =
      let f = frames.Window stream add in or-split (first f) (second f) (broken 12 (idle_code (last_of r) f)) (broken 13 (zero_code f)) None (late_fault r f)
  fault-split (frames.Continuation stream whole block) = let f = frames.Continuation stream whole block in or-split (first f) (second f) None None None (late_fault r f)
  fault-split (frames.Unknown kind stream) = let f = frames.Unknown kind stream in or-split (first f) (second f) None None None (late_fault r f)
