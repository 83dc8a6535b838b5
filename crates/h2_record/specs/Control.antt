-- The control frames that are due, in the order of the frames that cause them (RFC 9113 sections 6.5.3, 6.7, 6.8, 6.9).
use Rattle.std.specs.Prelude.{◌==◌, Bool, true, false, List, [], ◌∷◌, ◌++◌, Option, Some, None, if◌then◌else◌}
use Rattle.h2_frames.specs.declared.frame.Frame.{Frame}
use Rattle.h2_frames.specs.declared.frame.Frame.TheVariants as frames
use Rattle.h2_frames.specs.declared.fault.H2Fault.{H2Fault}
use Rattle.h2_frames.specs.declared.pairs.Pair.{Pair}
use Rattle.h2_record.specs.declared.control.Control.{Control}
use Rattle.h2_record.specs.declared.control.Control.TheVariants as control
use Rattle.h2_record.specs.Record.{Record, In, Out, Broken}
use Rattle.h2_record.specs.Ids.{last_of}
use Rattle.h2_record.specs.Faults.{fault_by, first_fault_of}
use Rattle.h2_record.specs.Credits.{owed_of, given_of, freed_by, credit}

-- SETTINGS_MAX_CONCURRENT_STREAMS (3) is 100 and SETTINGS_MAX_HEADER_LIST_SIZE (6) is 16,384.
abbrev pub own_settings : List Pair
own_settings = record { id = 3; value = 100 } ∷ record { id = 6; value = 16384 } ∷ []

-- the frame that each kind of control frame is
abbrev pub frame_of : Control → Frame
frame_of control.Settings = frames.Settings false own_settings
frame_of control.SettingsAck = frames.Settings true []
frame_of (control.Pong octets) = frames.Ping true octets
frame_of (control.Goaway last code) = frames.Goaway last code
frame_of (control.Credit stream add) = credit stream add

-- The control frames that a frame causes: SETTINGS and PING are answered where they have no ACK, and DATA gives its
-- whole payload back to the connection.
abbrev pub answer_to : Frame → List Frame
answer_to (frames.Settings false pairs) = frame_of control.SettingsAck ∷ []
answer_to (frames.Ping false octets) = frame_of (control.Pong octets) ∷ []
answer_to (frames.Body stream ended bytes counted) = if counted == 0 then [] else credit 0 counted ∷ []
answer_to _ = []

-- a connection error causes GOAWAY with the last id that was begun before it
abbrev pub goaway : Record → H2Fault → Frame
goaway r fault = frames.Goaway (last_of r) fault.code

-- what the latest frame causes, where `earlier` is the fault before it and `fault` its own; `due` is due before it
abbrev pub due_after : (due answer : List Frame) → Record → (earlier fault : Option H2Fault) → List Frame
due_after due answer r (Some earlier) fault = due
due_after due answer r None None = (due ++ given_of r (owed_of r)) ++ answer
due_after due answer r None (Some fault) = (due ++ given_of r (owed_of r)) ++ goaway r fault ∷ []

-- the control frames due; SETTINGS is the first, and nothing is due behind GOAWAY
abbrev pub control_of : Record → List Frame
control_of [] = frame_of control.Settings ∷ []
control_of (In frame ∷ r) = due_after (control_of r) (answer_to frame) r (first_fault_of r) (fault_by r frame)
control_of (Out frame ∷ r) = due_after (control_of r) (freed_by r frame) r (first_fault_of r) None
control_of (Broken fault ∷ r) = due_after (control_of r) [] r (first_fault_of r) (Some fault)
control_of (_ ∷ r) = control_of r

abbrev pub is_control : Frame → Bool
is_control (frames.Settings acked pairs) = true
is_control (frames.Ping acked octets) = true
is_control (frames.Goaway last code) = true
is_control (frames.Window stream add) = true
is_control _ = false

-- those that went
abbrev pub written_control_of : Record → List Frame
written_control_of [] = []
written_control_of (Out frame ∷ r) = if is_control frame then written_control_of r ++ frame ∷ [] else written_control_of r
written_control_of (_ ∷ r) = written_control_of r
