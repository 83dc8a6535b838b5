-- Marks change no frame.
use Rattle.std.proofs.Common.{◌≡◌, ℕ, ◌==◌, Bool, true, false, ◌||◌, List, [], ◌∷◌, ◌++◌, fold, pos, ◌-ℤ◌, Option, Some, None, refl, sym, ap, subst, ◌∙◌, if◌then◌else◌}
use Rattle.std.specs.Option.{option_or}
use Rattle.links.specs.Link.{Moved, Read, Wrote, Waited}
use Rattle.h2_frames.specs.declared.frame.Frame.{Frame}
use Rattle.h2_frames.specs.declared.frame.Frame.TheVariants as frames
use Rattle.h2_frames.specs.declared.fault.H2Fault.{H2Fault}
use Rattle.h2_frames.specs.declared.reader.Next.{Next}
use Rattle.h2_frames.specs.declared.reader.Next.TheVariants as next
use Rattle.h2_frames.specs.Held.{Held}
use Rattle.h2_frames.specs.Reading.{frame_next, next_of, held_with}
use Rattle.h2_frames.specs.Sound.{IsFrame}
use Rattle.h2_frames.specs.Spelling.{spelling}
use Rattle.h2_frames.proofs.HeldLemmas.{holding}
use Rattle.h2_frames.proofs.FramingLemmas.{begins}
use Rattle.h2_frames.proofs.RunLemmas.{preface_next-none}
use Rattle.h2_frames.proofs.Soundness.{IsFrame-spelled}
use Rattle.h2_record.specs.Record.{Record, In, Out, Given, Whole, Broken, any_in, any_out, sum_in, sum_out}
use Rattle.h2_record.specs.Windows.{initial_of, initial_after, with_increment, with_any_data, with_data, with_payload, first_window, connection_window_of, send_window_of, receive_window_of}
use Rattle.h2_record.specs.Faults.{fault_by, first_fault_of}
use Rattle.h2_record.specs.Control.{is_control, written_control_of}
use Rattle.h2_record.specs.Texts.{written_codes}
use Rattle.conn_record.specs.Timeline.{Framing, unframed, is_broken, came, byte_in, byte_out, went, framed_from, framing_of}
use Rattle.conn_record.specs.Written.{spelled_out}
use Rattle.conn_record.specs.Marks.{unmarked, EachIsFrame, MarksChangeNothing, TimelinesAreUnmarked, OutsStand, TimelinesAreSpelled, SoundIsUnbroken}

-- ---- a record and its frames

module _ (test : Frame → Bool) where
  any-in : (r : Record) → any_in test (unmarked r) ≡ any_in test r
  any-in [] = refl
  any-in (In frame ∷ r) = ap (λ (b : Bool). test frame || b) (any-in r)
  any-in (Out frame ∷ r) = any-in r
  any-in (Given stream part ∷ r) = any-in r
  any-in (Whole ∷ r) = any-in r
  any-in (Broken fault ∷ r) = any-in r

  any-out : (r : Record) → any_out test (unmarked r) ≡ any_out test r
  any-out [] = refl
  any-out (In frame ∷ r) = any-out r
  any-out (Out frame ∷ r) = ap (λ (b : Bool). test frame || b) (any-out r)
  any-out (Given stream part ∷ r) = any-out r
  any-out (Whole ∷ r) = any-out r
  any-out (Broken fault ∷ r) = any-out r

module _ (count : Frame → ℕ → ℕ) (start : ℕ) where
  sum-in : (r : Record) → sum_in count start (unmarked r) ≡ sum_in count start r
  sum-in [] = refl
  sum-in (In frame ∷ r) = ap (count frame) (sum-in r)
  sum-in (Out frame ∷ r) = sum-in r
  sum-in (Given stream part ∷ r) = sum-in r
  sum-in (Whole ∷ r) = sum-in r
  sum-in (Broken fault ∷ r) = sum-in r

  sum-out : (r : Record) → sum_out count start (unmarked r) ≡ sum_out count start r
  sum-out [] = refl
  sum-out (In frame ∷ r) = sum-out r
  sum-out (Out frame ∷ r) = ap (count frame) (sum-out r)
  sum-out (Given stream part ∷ r) = sum-out r
  sum-out (Whole ∷ r) = sum-out r
  sum-out (Broken fault ∷ r) = sum-out r

initial : (r : Record) → initial_of (unmarked r) ≡ initial_of r
initial [] = refl
initial (In (frames.Settings false pairs) ∷ r) = ap (λ (n : ℕ). initial_after n pairs) (initial r)
initial (In (frames.Settings true pairs) ∷ r) = initial r
initial (In (frames.Body stream ended bytes counted) ∷ r) = initial r
initial (In (frames.Headers stream ended whole block) ∷ r) = initial r
initial (In (frames.Priority stream) ∷ r) = initial r
initial (In (frames.Reset stream code) ∷ r) = initial r
initial (In (frames.Push stream) ∷ r) = initial r
initial (In (frames.Ping acked octets) ∷ r) = initial r
initial (In (frames.Goaway last code) ∷ r) = initial r
initial (In (frames.Window stream add) ∷ r) = initial r
initial (In (frames.Continuation stream whole block) ∷ r) = initial r
initial (In (frames.Unknown kind stream) ∷ r) = initial r
initial (Out frame ∷ r) = initial r
initial (Given stream part ∷ r) = initial r
initial (Whole ∷ r) = initial r
initial (Broken fault ∷ r) = initial r

control : (r : Record) → written_control_of (unmarked r) ≡ written_control_of r
control [] = refl
control (In frame ∷ r) = control r
control (Out frame ∷ r) = ap (λ (fs : List Frame). if is_control frame then fs ++ frame ∷ [] else fs) (control r)
control (Given stream part ∷ r) = control r
control (Whole ∷ r) = control r
control (Broken fault ∷ r) = control r

spelled : (r : Record) → spelled_out (unmarked r) ≡ spelled_out r
spelled [] = refl
spelled (In frame ∷ r) = spelled r
spelled (Out frame ∷ r) = ap (λ (bytes : List ℕ). bytes ++ spelling frame) (spelled r)
spelled (Given stream part ∷ r) = spelled r
spelled (Whole ∷ r) = spelled r
spelled (Broken fault ∷ r) = spelled r

codes : (r : Record) (id : ℕ) → written_codes (unmarked r) id ≡ written_codes r id
codes [] id = refl
codes (In frame ∷ r) id = codes r id
codes (Out (frames.Reset stream code) ∷ r) id = ap (λ (xs : List ℕ). if id == stream then xs ++ code ∷ [] else xs) (codes r id)
codes (Out (frames.Body stream ended bytes counted) ∷ r) id = codes r id
codes (Out (frames.Headers stream ended whole block) ∷ r) id = codes r id
codes (Out (frames.Priority stream) ∷ r) id = codes r id
codes (Out (frames.Settings acked pairs) ∷ r) id = codes r id
codes (Out (frames.Push stream) ∷ r) id = codes r id
codes (Out (frames.Ping acked octets) ∷ r) id = codes r id
codes (Out (frames.Goaway last code) ∷ r) id = codes r id
codes (Out (frames.Window stream add) ∷ r) id = codes r id
codes (Out (frames.Continuation stream whole block) ∷ r) id = codes r id
codes (Out (frames.Unknown kind stream) ∷ r) id = codes r id
codes (Given stream part ∷ r) id = codes r id
codes (Whole ∷ r) id = codes r id
codes (Broken fault ∷ r) id = codes r id

connection : (r : Record) → connection_window_of (unmarked r) ≡ connection_window_of r
connection r = λ i. pos (sum-in (with_increment 0) first_window r i) -ℤ pos (sum-out with_any_data 0 r i)

send : (r : Record) (id : ℕ) → send_window_of (unmarked r) id ≡ send_window_of r id
send r id =
    let grants : sum_in (with_increment id) (initial_of (unmarked r)) (unmarked r) ≡ sum_in (with_increment id) (initial_of r) r =
    sum-in (with_increment id) (initial_of (unmarked r)) r ∙ ap (λ (n : ℕ). sum_in (with_increment id) n r) (initial r) in
    λ i. pos (grants i) -ℤ pos (sum-out (with_data id) 0 r i)

receive : (r : Record) (id : ℕ) → receive_window_of (unmarked r) id ≡ receive_window_of r id
receive r id = λ i. pos (sum-out (with_increment id) first_window r i) -ℤ pos (sum-in (with_payload id) 0 r i)

pub marks-change-nothing : MarksChangeNothing
marks-change-nothing r other same = record {
  came = λ test. sym (any-in test r) ∙ ap (any_in test) same ∙ any-in test other;
  went = λ test. sym (any-out test r) ∙ ap (any_out test) same ∙ any-out test other;
  initial = sym (initial r) ∙ ap initial_of same ∙ initial other;
  connection = sym (connection r) ∙ ap connection_window_of same ∙ connection other;
  send = λ id. sym (send r id) ∙ ap (λ (x : Record). send_window_of x id) same ∙ send other id;
  receive = λ id. sym (receive r id) ∙ ap (λ (x : Record). receive_window_of x id) same ∙ receive other id;
  control = sym (control r) ∙ ap written_control_of same ∙ control other;
  codes = λ id. sym (codes r id) ∙ ap (λ (x : Record). written_codes x id) same ∙ codes other id;
  spelled = sym (spelled r) ∙ ap spelled_out same ∙ spelled other;
}

pub outs-stand : OutsStand
outs-stand r [] = refl
outs-stand r (frame ∷ frames) = outs-stand (Out frame ∷ r) frames

-- ---- timelines

-- a frame that is given is spelled by the bytes
is-frame : (started : Bool) (bytes : List ℕ) (frame : Frame) → next_of (holding started bytes) ≡ next.Frame frame → IsFrame frame
is-frame true bytes frame e = let b = begins bytes frame e in IsFrame-spelled frame b.0 b.2 b.3
is-frame false bytes frame e = absurd (preface_next-none bytes frame e)

-- what each frame and each broken rule keeps holds of a timeline
module _ (Keeps : Record → Type 0) (frame-in : (r : Record) (frame : Frame) → IsFrame frame → Keeps r → Keeps (In frame ∷ r))
    (broken-in : (r : Record) (fault : H2Fault) → Keeps r → Keeps (Broken fault ∷ r)) (frame-out : (r : Record) (frame : Frame) → Keeps r → Keeps (Out frame ∷ r)) where
  keeps-came : (s : Framing) (held : Held) (n : Next) → next_of held ≡ n → Keeps s.frames → Keeps (came s held n).frames
  keeps-came s held (next.Frame frame) e k = frame-in s.frames frame (is-frame held.started held.bytes frame e) k
  keeps-came s held next.More e k = k
  keeps-came s held (next.Fault fault) e k = broken-in s.frames fault k

  keeps-in : (s : Framing) (byte : ℕ) → Keeps s.frames → Keeps (byte_in s byte).frames
  unfolding byte_in
  keeps-in s byte k = by (is_broken s.frames) refl
    where
      by : (broken : Bool) → is_broken s.frames ≡ broken → Keeps (byte_in s byte).frames
      by true e = rw e k
      by false e = rw e (keeps-came s (held_with s.inflow (byte ∷ [])) _ refl k)

  keeps-went : (s : Framing) (bytes : List ℕ) (n : Next) → Keeps s.frames → Keeps (went s bytes n).frames
  keeps-went s bytes (next.Frame frame) k = frame-out s.frames frame k
  keeps-went s bytes next.More k = k
  keeps-went s bytes (next.Fault fault) k = k

  keeps-reads : (bytes : List ℕ) (s : Framing) → Keeps s.frames → Keeps (fold byte_in s bytes).frames
  keeps-reads [] s k = k
  keeps-reads (b ∷ bytes) s k = keeps-reads bytes (byte_in s b) (keeps-in s b k)

  keeps-writes : (bytes : List ℕ) (s : Framing) → Keeps s.frames → Keeps (fold byte_out s bytes).frames
  unfolding byte_out
  keeps-writes [] s k = k
  keeps-writes (b ∷ bytes) s k = keeps-writes bytes (byte_out s b) (keeps-went s (s.outflow ++ b ∷ []) (frame_next (s.outflow ++ b ∷ [])) k)

  keeps-from : (log : List Moved) (s : Framing) → Keeps s.frames → Keeps (framed_from s log).frames
  keeps-from [] s k = k
  keeps-from (Read bytes ∷ log) s k = keeps-from log (fold byte_in s bytes) (keeps-reads bytes s k)
  keeps-from (Wrote bytes ∷ log) s k = keeps-from log (fold byte_out s bytes) (keeps-writes bytes s k)
  keeps-from (Waited ∷ log) s k = keeps-from log s k

  keeps-log : (log : List Moved) → Keeps [] → Keeps (framing_of log).frames
  unfolding framing_of
  keeps-log log k = keeps-from log unframed k

pub timelines-are-unmarked : TimelinesAreUnmarked
timelines-are-unmarked log =
    keeps-log (λ r. unmarked r ≡ r) (λ r frame is same. ap (λ (x : Record). In frame ∷ x) same) (λ r fault same. ap (λ (x : Record). Broken fault ∷ x) same)
    (λ r frame same. ap (λ (x : Record). Out frame ∷ x) same) log refl

each-unmarked : (r : Record) → EachIsFrame (unmarked r) → EachIsFrame r
each-unmarked [] e = e
each-unmarked (In frame ∷ r) e = (e.0, each-unmarked r e.1)
each-unmarked (Out frame ∷ r) e = each-unmarked r e
each-unmarked (Given stream part ∷ r) e = each-unmarked r e
each-unmarked (Whole ∷ r) e = each-unmarked r e
each-unmarked (Broken fault ∷ r) e = each-unmarked r e

pub timelines-are-spelled : TimelinesAreSpelled
timelines-are-spelled log r same =
    each-unmarked r (subst EachIsFrame (sym same) (keeps-log EachIsFrame (λ r frame is each. (is, each)) (λ r fault each. each) (λ r frame each. each) log tt))

earlier-none : (earlier later : Option H2Fault) → option_or earlier later ≡ None → earlier ≡ None
earlier-none None later e = refl
earlier-none (Some fault) later e = absurd (cc)

later-none : (earlier later : Option H2Fault) → option_or earlier later ≡ None → later ≡ None
later-none None later e = e
later-none (Some fault) later e = absurd (cc)

pub sound-is-unbroken : SoundIsUnbroken
sound-is-unbroken [] sound = refl
sound-is-unbroken (In frame ∷ r) sound = sound-is-unbroken r (earlier-none (first_fault_of r) (fault_by r frame) sound)
sound-is-unbroken (Out frame ∷ r) sound = sound-is-unbroken r sound
sound-is-unbroken (Given stream part ∷ r) sound = sound-is-unbroken r sound
sound-is-unbroken (Whole ∷ r) sound = sound-is-unbroken r sound
sound-is-unbroken (Broken fault ∷ r) sound = absurd (let none : Some fault ≡ None = later-none (first_fault_of r) (Some fault) sound in cc)
