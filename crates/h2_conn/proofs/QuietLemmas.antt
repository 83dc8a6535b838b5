-- Frames that no stream is changed by.
use Rattle.std.proofs.Common.{◌≡◌, ℕ, ◌+◌, Bool, true, false, List, [], ◌∷◌, ◌++◌, map, None, Some, refl, sym, ap, subst, ◌∙◌, if◌then◌else◌, append-nil}
use Rattle.h2_frames.specs.declared.frame.Frame.{Frame}
use Rattle.h2_frames.specs.declared.frame.Frame.TheVariants as frames
use Rattle.h2_streams.specs.Book.{Book}
use Rattle.h2_answers.specs.Waiting.{Waiting, waiting_on}
use Rattle.h2_record.specs.declared.control.Control.{Control}
use Rattle.h2_record.proofs.BoolLemmas.{or-second}
use Rattle.h2_record.specs.Record.{Record, In, any_in}
use Rattle.hpack_blocks.specs.Answers.{Open}
use Rattle.h2_frames.specs.declared.pairs.Pair.{Pair}
use Rattle.h2_record.specs.Windows.{initial_of, connection_window_of}
use Rattle.h2_record.specs.Blocks.{open_of, table_of}
use Rattle.h2_record.specs.Credits.{owed_of}
use Rattle.h2_record.specs.Live.{ends, is_live_with}
use Rattle.h2_record.specs.Resets.{reset_by, resets_of, is_live, is_open}
use Rattle.h2_record.specs.Faults.{fault_by, flood_code, flood_of, is_flood}
use Rattle.h2_record.specs.Rules.{broken}
use Rattle.h2_record.specs.Replies.{unwritten_of}
use Rattle.h2_record.specs.Control.{answer_to, frame_of}
use Rattle.h2_record.specs.Texts.{codes_on}
use Rattle.h2_conn.specs.Held.{Held}
use Rattle.h2_conn.specs.Stands.{StreamsStand, OpenStands}
use Rattle.h2_conn.specs.Waits.{WaitsBy}
use Rattle.h2_conn.specs.Taking.{Settled, Takes, IsPriority, IsAcked, IsPingAcked, IsGoaway, IsUnknown, early_of, Fails, IsPassed}
use Rattle.h2_frames.specs.declared.fault.H2Fault.{H2Fault}
use Rattle.h2_record.specs.Early.{late_fault}
use Rattle.h2_conn.proofs.FloodLemmas.{flood_fault, fails-flood, sound-flood, count-flood}
use Rattle.h2_record.proofs.StepLemmas.{sound-in, controls-in, kept-in}

-- what waits on a stream that a frame leaves as it was
pub waits-in : (r : Record) (frame : Frame) (id : ℕ) (waiting : Waiting) (live : Bool)
    → unwritten_of (In frame ∷ r) id ≡ unwritten_of r id → codes_on (resets_of (In frame ∷ r)) id ≡ codes_on (resets_of r) id
    → WaitsBy live r id waiting → WaitsBy live (In frame ∷ r) id waiting
waits-in r frame id waiting true unwritten codes w = record { unreset = w.unreset; unfinished = λ going. w.unfinished (or-second (ends id frame) (any_in (ends id) r) going); text = w.text; replies = w.replies ∙ sym unwritten }
waits-in r frame id waiting false unwritten codes w = record { text = w.text; resets = w.resets ∙ sym codes }

-- frames that speak of no stream
pub data IsQuiet : Frame → Type 0 where
  Priority : (stream : ℕ) → IsQuiet (frames.Priority stream)
  Acked : (pairs : List Pair) → IsQuiet (frames.Settings true pairs)
  Ping : (acked : Bool) (octets : List ℕ) → IsQuiet (frames.Ping acked octets)
  Goaway : (last code : ℕ) → IsQuiet (frames.Goaway last code)
  Unknown : (kind stream : ℕ) → IsQuiet (frames.Unknown kind stream)

pub streams-quiet : (streams : Book) (answers : List (ℕ × Waiting)) (r : Record) (frame : Frame) → IsQuiet frame → StreamsStand streams answers r → StreamsStand streams answers (In frame ∷ r)
unfolding reset_by is_live_with
streams-quiet streams answers r frame (Priority stream) s = record {
  last = s.last;
  remembered = s.remembered;
  found = s.found;
  live = s.live;
  waits = λ id. waits-in r frame id (waiting_on answers id) (is_live r id) refl refl (s.waits id);
  fresh = s.fresh;
}
streams-quiet streams answers r frame (Acked pairs) s = record {
  last = s.last;
  remembered = s.remembered;
  found = s.found;
  live = s.live;
  waits = λ id. waits-in r frame id (waiting_on answers id) (is_live r id) refl refl (s.waits id);
  fresh = s.fresh;
}
streams-quiet streams answers r frame (Ping acked octets) s = record {
  last = s.last;
  remembered = s.remembered;
  found = s.found;
  live = s.live;
  waits = λ id. waits-in r frame id (waiting_on answers id) (is_live r id) refl refl (s.waits id);
  fresh = s.fresh;
}
streams-quiet streams answers r frame (Goaway last code) s = record {
  last = s.last;
  remembered = s.remembered;
  found = s.found;
  live = s.live;
  waits = λ id. waits-in r frame id (waiting_on answers id) (is_live r id) refl refl (s.waits id);
  fresh = s.fresh;
}
streams-quiet streams answers r frame (Unknown kind stream) s = record {
  last = s.last;
  remembered = s.remembered;
  found = s.found;
  live = s.live;
  waits = λ id. waits-in r frame id (waiting_on answers id) (is_live r id) refl refl (s.waits id);
  fresh = s.fresh;
}

-- what a quiet frame leaves of a connection: the control frames that it causes, and the count of frames that ask for
-- nothing
abbrev quiet_after : Held → (more : List Control) (flood : ℕ) → Held
quiet_after c more flood = record c { has_begun = true; control = c.control ++ more; flood = flood }

quiet-stands : (c : Held) (r : Record) (frame : Frame) (more : List Control) (flood : ℕ) → Settled c r → fault_by r frame ≡ None
    → answer_to frame ≡ map frame_of more → flood ≡ flood_of (In frame ∷ r)
    → connection_window_of (In frame ∷ r) ≡ connection_window_of r → initial_of (In frame ∷ r) ≡ initial_of r → StreamsStand c.streams c.answers (In frame ∷ r)
    → open_of (In frame ∷ r) ≡ open_of r → table_of (In frame ∷ r) ≡ table_of r → owed_of (In frame ∷ r) ≡ None
    → ((id : ℕ) → is_open (In frame ∷ r) id ≡ is_open r id) → OpenStands (quiet_after c more flood) (In frame ∷ r)
quiet-stands c r frame more flood s none answer count window initial streams block table owed opened = record {
  sound = sound-in r frame s.sound none;
  begun = refl;
  window = s.window ∙ sym window;
  initial = s.initial ∙ sym initial;
  streams = streams;
  block = s.block ∙ sym block;
  table = s.table ∙ ap Open (sym table);
  controls = controls-in r frame c.control more s.sound none s.controls answer;
  owing = s.owing ∙ sym owed;
  keeping = λ id. s.keeping id ∙ sym (kept-in r frame id (opened id));
  flood = count;
  headed = s.headed;
}

pub takes-quiet : (c : Held) (r : Record) (frame : Frame) (more : List Control) (flood : ℕ) → IsQuiet frame → Settled c r → fault_by r frame ≡ None
    → answer_to frame ≡ map frame_of more → flood ≡ flood_of (In frame ∷ r) → Takes r frame None (quiet_after c more flood)
unfolding reset_by is_live_with
takes-quiet c r frame more flood (Priority stream) s none answer count = record {
  breaks = none;
  tells = refl;
  stands = quiet-stands c r frame more flood s none answer count refl refl (streams-quiet c.streams c.answers r frame (Priority stream) s.streams) refl refl refl (λ id. refl);
}
takes-quiet c r frame more flood (Acked pairs) s none answer count = record {
  breaks = none;
  tells = refl;
  stands = quiet-stands c r frame more flood s none answer count refl refl (streams-quiet c.streams c.answers r frame (Acked pairs) s.streams) refl refl refl (λ id. refl);
}
takes-quiet c r frame more flood (Ping acked octets) s none answer count = record {
  breaks = none;
  tells = refl;
  stands = quiet-stands c r frame more flood s none answer count refl refl (streams-quiet c.streams c.answers r frame (Ping acked octets) s.streams) refl refl refl (λ id. refl);
}
takes-quiet c r frame more flood (Goaway last code) s none answer count = record {
  breaks = none;
  tells = refl;
  stands = quiet-stands c r frame more flood s none answer count refl refl (streams-quiet c.streams c.answers r frame (Goaway last code) s.streams) refl refl refl (λ id. refl);
}
takes-quiet c r frame more flood (Unknown kind stream) s none answer count = record {
  breaks = none;
  tells = refl;
  stands = quiet-stands c r frame more flood s none answer count refl refl (streams-quiet c.streams c.answers r frame (Unknown kind stream) s.streams) refl refl refl (λ id. refl);
}

-- the frames that are passed over are quiet, and cause no control frame
passed-quiet : (frame : Frame) → IsPassed frame → IsQuiet frame
passed-quiet frame (IsPriority stream) = Priority stream
passed-quiet frame (IsAcked pairs) = Acked pairs
passed-quiet frame (IsPingAcked octets) = Ping true octets
passed-quiet frame (IsGoaway last code) = Goaway last code
passed-quiet frame (IsUnknown kind stream) = Unknown kind stream

passed-answer : (frame : Frame) → IsPassed frame → answer_to frame ≡ []
passed-answer frame (IsPriority stream) = refl
passed-answer frame (IsAcked pairs) = refl
passed-answer frame (IsPingAcked octets) = refl
passed-answer frame (IsGoaway last code) = refl
passed-answer frame (IsUnknown kind stream) = refl

passed-late : (r : Record) (frame : Frame) → IsPassed frame → late_fault r frame ≡ flood_fault r frame
unfolding late_fault
passed-late r frame (IsPriority stream) = refl
passed-late r frame (IsAcked pairs) = refl
passed-late r frame (IsPingAcked octets) = refl
passed-late r frame (IsGoaway last code) = refl
passed-late r frame (IsUnknown kind stream) = refl

pub fails-passed : (c : Held) (r : Record) (frame : Frame) (fault : H2Fault) → IsPassed frame → Settled c r → early_of c frame ≡ None
    → broken 17 (flood_code c.flood frame) ≡ Some fault → Fails r frame fault c
fails-passed c r frame fault passes s early over = fails-flood c r frame fault s early (passed-late r frame passes) over

-- what a frame that is passed over leaves
abbrev passed_after : Held → (flood : ℕ) → Held
passed_after c flood = record c { has_begun = true; flood = flood }

pub takes-passed : (c : Held) (r : Record) (frame : Frame) (flood : ℕ) → IsPassed frame → Settled c r → early_of c frame ≡ None
    → flood_code c.flood frame ≡ None → flood ≡ (if is_flood frame then c.flood + 1 else c.flood) → Takes r frame None (passed_after c flood)
takes-passed c r frame flood passes s early within count =
    subst (λ (waiting : List Control). Takes r frame None (record (passed_after c flood) { control = waiting })) (append-nil c.control)
    (takes-quiet c r frame [] flood (passed-quiet frame passes) s (sound-flood c r frame s early (passed-late r frame passes) within) (passed-answer frame passes) (count-flood c r frame flood s count))
