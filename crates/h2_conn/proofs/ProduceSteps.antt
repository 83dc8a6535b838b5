-- A frame that goes is due, and the connection stands for the record with it.
use Rattle.std.proofs.Common.{◌≡◌, ℕ, ◌+◌, ◌<◌, ◌≤◌, Bool, true, false, List, ◌∷◌, length, Option, None, Some, IsSome, refl, sym, ap, subst, ◌∙◌, arith, true≢false, pos, ◌-ℤ◌}
use Rattle.h2_frames.specs.declared.frame.Frame.{Frame}
use Rattle.h2_frames.specs.declared.frame.Frame.TheVariants as frames
use Rattle.h2_frames.specs.declared.fault.H2Fault.{H2Fault}
use Rattle.h2_frames.specs.Spelling.{spelling, frame_len}
use Rattle.h2_streams.specs.declared.stream.Stream.{Stream}
use Rattle.h2_streams.specs.declared.stream.StreamState.{StreamState}
use Rattle.h2_streams.specs.declared.stream.StreamState.TheVariants as is
use Rattle.h2_streams.specs.Book.{find, state_in, with_stream}
use Rattle.h2_answers.specs.declared.part.Part.{Part}
use Rattle.h2_answers.specs.declared.part.Part.TheVariants as part
use Rattle.h2_answers.specs.declared.part.Due.{Due}
use Rattle.h2_answers.specs.Due.{IsAhead, IsFree}
use Rattle.h2_record.specs.declared.control.Control.{Control}
use Rattle.h2_record.specs.declared.control.Control.TheVariants as control
use Rattle.h2_conn.specs.declared.next.Next.TheVariants as next
use Rattle.h2_record.specs.Record.{Record, Out}
use Rattle.h2_record.specs.Control.{frame_of}
use Rattle.h2_record.specs.Due.{IsDue, IsLongest}
use Rattle.h2_conn.specs.KeptCredit.{kept_on}
use Rattle.h2_conn.specs.Held.{Held}
use Rattle.h2_conn.specs.Stands.{OpenStands, FaultStands, StandsBy, Stands}
use Rattle.h2_conn.specs.Taking.{Settled}
use Rattle.h2_conn.specs.Produces.{Goes, Rests}
use Rattle.h2_conn.specs.Parts.{part_frame, IsWithinWindows, PartGoes, LeavesPart, FinishesBy, ResetsBy, FreesBy, SpendsBy, spent_stream, is_freed}
use Rattle.h2_conn.specs.Producing.{waiting_control, first_of, bounds_in, IsTooLong, IsShort, IsNextIn, ControlGoes}
use Rattle.h2_conn.proofs.OutSteps.{control-goes, faulty-out}
use Rattle.h2_conn.proofs.DueLaws.{control-due, last-due, part-due}
use Rattle.h2_conn.proofs.QuietOut.{quiet-open, quiet-last, part-longest}
use Rattle.h2_conn.proofs.HeadOut.{head-stands, tail-stands}
use Rattle.h2_conn.proofs.BodyOut.{body-stands}
use Rattle.h2_conn.proofs.ResetOut.{reset-stands}

-- a frame has bytes
pub spelled-some : (frame : Frame) → 0 < frame_len frame
unfolding spelling
spelled-some (frames.Body stream end bytes counted) = omega arith
spelled-some (frames.Headers stream end whole block) = omega arith
spelled-some (frames.Priority stream) = omega arith
spelled-some (frames.Reset stream code) = omega arith
spelled-some (frames.Settings acked pairs) = omega arith
spelled-some (frames.Push stream) = omega arith
spelled-some (frames.Ping acked octets) = omega arith
spelled-some (frames.Goaway last code) = omega arith
spelled-some (frames.Window stream add) = omega arith
spelled-some (frames.Continuation stream whole block) = omega arith
spelled-some (frames.Unknown kind stream) = omega arith

-- ---- where nothing goes

stood : (c : Held) (r : Record) (fault : Option H2Fault) → c.fault ≡ fault → Stands c r → StandsBy fault c r
stood c r fault is s = subst (λ (f : Option H2Fault). StandsBy f c r) is s.1

pub rests-open : (old : Held) (room : ℕ) → old.fault ≡ None → IsNextIn old room next.Nothing → Rests old room old
rests-open old room sound nothing = record { same = refl; none = λ r s. quiet-open old r room (stood old r None sound s) nothing }

pub rests-last : (old : Held) (room : ℕ) (fault : H2Fault) → old.fault ≡ Some fault → IsTooLong (first_of old.control) room → Rests old room old
rests-last old room fault met long = record { same = refl; none = λ r s. quiet-last old r fault room (stood old r (Some fault) met s) long }

-- ---- a control frame

longest-control : (r : Record) (room : ℕ) (x : Control) → IsLongest r room (frame_of x)
longest-control r room control.Settings = tt
longest-control r room control.SettingsAck = tt
longest-control r room (control.Pong octets) = tt
longest-control r room (control.Goaway last code) = tt
longest-control r room (control.Credit stream add) = tt

pub goes-last : (old : Held) (room : ℕ) (fault : H2Fault) (bytes : List ℕ) (new : Held) → old.fault ≡ Some fault → ControlGoes old bytes new → length bytes ≤ room → Goes old room bytes new
goes-last old room fault bytes new met g fits = record {
  frame = frame_of g.control;
  spelled = g.spelled;
  writable = g.writable;
  in_range = g.in_range;
  fits = fits;
  counted = ap (λ (c : Held). c.unwritten) g.rest;
  due = λ r s. last-due old r fault g.control g.behind (stood old r (Some fault) met s) g.first;
  longest = λ r s. longest-control r room g.control;
  stands = λ r s.
      let f = faulty-out old r fault g.control g.behind (old.unwritten + length bytes) (stood old r (Some fault) met s) g.first in
      let lit : Held = record old { streams = new.streams; control = g.behind; unwritten = old.unwritten + length bytes } in
      let frame = frame_of g.control in
      let stands : FaultStands lit fault (Out frame ∷ r) = record { met = f.met; begun = f.begun; headed = f.headed; control = f.control; waits = f.waits } in
      subst (λ (c : Held). Stands c (Out frame ∷ r)) (sym g.rest) (s.0, subst (λ (e : Option H2Fault). StandsBy e lit (Out frame ∷ r)) (sym met) stands);
}

-- where some error was met
rests-by : (old : Held) (room : ℕ) (fault : Option H2Fault) → old.fault ≡ fault → IsSome fault → IsTooLong (first_of old.control) room → Rests old room old
rests-by old room None e there long = absurd (true≢false (sym there))
rests-by old room (Some fault) e there long = rests-last old room fault e long

pub rests-closed : (old : Held) (room : ℕ) → IsSome old.fault → IsTooLong (first_of old.control) room → Rests old room old
rests-closed old room there long = rests-by old room old.fault refl there long

goes-by : (old : Held) (room : ℕ) (fault : Option H2Fault) (bytes : List ℕ) (new : Held) → old.fault ≡ fault → IsSome fault → ControlGoes old bytes new → length bytes ≤ room → Goes old room bytes new
goes-by old room None bytes new e there g fits = absurd (true≢false (sym there))
goes-by old room (Some fault) bytes new e there g fits = goes-last old room fault bytes new e g fits

pub goes-closed : (old : Held) (room : ℕ) (bytes : List ℕ) (new : Held) → IsSome old.fault → ControlGoes old bytes new → IsShort (first_of old.control) room → Goes old room bytes new
goes-closed old room bytes new there g short =
    let first : IsShort (Some g.control) room = subst (λ (waiting : List Control). IsShort (first_of waiting) room) g.first short in
    let long = ap length g.spelled in
    goes-by old room old.fault bytes new refl there g (omega (arith, first, long))

-- What is seen to before anything goes: the credit of the latest frame is given or kept.
pub record Settles (old mid : Held) : Type 0 where
  pub stands : (r : Record) → OpenStands old r → Settled mid r
  pub rest : mid ≡ record old { control = waiting_control old; owed = None; kept = mid.kept }

first-same : (waiting : List Control) (x y : Control) (behind : List Control) → first_of waiting ≡ Some x → waiting ≡ y ∷ behind → x ≡ y
first-same waiting x y behind first same = let e : Some x ≡ Some y = sym first ∙ ap first_of same in cc

-- what a part leaves alone
pub record SameOutside (old new : Held) : Type 0 where
  pub fault : new.fault ≡ old.fault
  pub lost : new.is_lost ≡ old.is_lost
  pub unwritten : new.unwritten ≡ old.unwritten

outside-of : (old lit new : Held) → new ≡ lit → lit.fault ≡ old.fault → lit.is_lost ≡ old.is_lost → lit.unwritten ≡ old.unwritten → SameOutside old new
outside-of old lit new is fault lost unwritten = record {
  fault = ap (λ (c : Held). c.fault) is ∙ fault;
  lost = ap (λ (c : Held). c.is_lost) is ∙ lost;
  unwritten = ap (λ (c : Held). c.unwritten) is ∙ unwritten;
}

outside-finish : (state : StreamState) (old : Held) (id : ℕ) (new : Held) → FinishesBy state old id new → SameOutside old new
outside-finish is.Live old id new f = outside-of old _ new f.rest refl refl refl
outside-finish is.Ended old id new f = outside-of old _ new f.rest refl refl refl
outside-finish is.Idle old id new f = outside-of old _ new f refl refl refl
outside-finish (is.Closed remembered) old id new f = outside-of old _ new f refl refl refl

outside-reset : (found : Option Stream) (old : Held) (id : ℕ) (new : Held) → ResetsBy found old id new → SameOutside old new
outside-reset None old id new f = outside-of old _ new f refl refl refl
outside-reset (Some stream) old id new f = outside-of old _ new f.rest refl refl refl

outside-free : (freed : Bool) (sum : ℕ) (old : Held) (id : ℕ) (new : Held) → FreesBy freed sum old id new → SameOutside old new
outside-free true sum old id new f = outside-of old _ new f.1 refl refl refl
outside-free false sum old id new f = outside-of old _ new f refl refl refl

outside-spend : (found : Option Stream) (old : Held) (id len : ℕ) (new : Held) → SpendsBy found old id len new → SameOutside old new
outside-spend None old id len new f = outside-of old _ new f refl refl refl
outside-spend (Some stream) old id len new f =
    let spent : Held = record old { window = old.window -ℤ pos len; streams = with_stream old.streams id (spent_stream stream len) } in
    let o = outside-free (is_freed (kept_on old.kept id) spent id) (kept_on old.kept id) spent id new f in
    record { fault = o.fault; lost = o.lost; unwritten = o.unwritten }

outside-part : (p : Part) (old : Held) (id : ℕ) (new : Held) → LeavesPart p old id new → SameOutside old new
outside-part (part.Head false) old id new f = outside-of old _ new f refl refl refl
outside-part (part.Head true) old id new f = let o = outside-finish (state_in old.streams id) (record old { has_headed = true }) id new f in record { fault = o.fault; lost = o.lost; unwritten = o.unwritten }
outside-part (part.Body len) old id new f = outside-spend (find old.streams id) old id len new f
outside-part part.Tail old id new f = let o = outside-finish (state_in old.streams id) (record old { has_headed = true }) id new f in record { fault = o.fault; lost = o.lost; unwritten = o.unwritten }
outside-part (part.Reset code) old id new f = outside-reset (find old.streams id) old id new f

stands-by : (old new : Held) (id : ℕ) (p : Part) (bytes : List ℕ) (r : Record) → Settled old r → IsAhead old.answers (record { stream = id; part = p }) → PartGoes old (record { stream = id; part = p }) bytes new
    → OpenStands new (Out (part_frame old (record { stream = id; part = p })) ∷ r)
stands-by old new id (part.Head end) bytes r s a g = head-stands old new id end bytes r s a g
stands-by old new id (part.Body len) bytes r s a g = body-stands old new id len bytes r s a g
stands-by old new id part.Tail bytes r s a g = tail-stands old new id bytes r s a g
stands-by old new id (part.Reset code) bytes r s a g = reset-stands old new id code bytes r s a g

module _ (old mid : Held) (room : ℕ) (bytes : List ℕ) (new : Held) (sound : old.fault ≡ None) (m : Settles old mid) where
  mid-fault : mid.fault ≡ None
  mid-fault = ap (λ (c : Held). c.fault) m.rest ∙ sound

  stands-new : (r : Record) (frame : Frame) → new.fault ≡ mid.fault → new.is_lost ≡ mid.is_lost → Stands old r → OpenStands new (Out frame ∷ r) → Stands new (Out frame ∷ r)
  stands-new r frame same lost s o = (lost ∙ ap (λ (c : Held). c.is_lost) m.rest ∙ s.0, subst (λ (e : Option H2Fault). StandsBy e new (Out frame ∷ r)) (sym (same ∙ mid-fault)) o)

  pub goes-control : IsNextIn old room next.Control → ControlGoes mid bytes new → Goes old room bytes new
  goes-control n g =
      let waiting : waiting_control old ≡ g.control ∷ g.behind = sym (ap (λ (c : Held). c.control) m.rest) ∙ g.first in
      let same = first-same (waiting_control old) n.0 g.control g.behind n.1 waiting in
      record {
        frame = frame_of g.control;
        spelled = g.spelled;
        writable = g.writable;
        in_range = g.in_range;
        fits = (let long = ap length g.spelled in let short = n.2 in let equal = ap (λ x. frame_len (frame_of x)) same in omega (arith, long, short, equal));
        counted = ap (λ (c : Held). c.unwritten) g.rest ∙ ap (λ (c : Held). c.unwritten + length bytes) m.rest;
        due = λ r s. control-due old r g.control (stood old r None sound s) (ap first_of waiting);
        longest = λ r s. longest-control r room g.control;
        stands = λ r s.
            let o = control-goes mid r g.control g.behind new.streams (mid.unwritten + length bytes) (m.stands r (stood old r None sound s)) g.first g.leaves in
            stands-new r (frame_of g.control) (ap (λ (c : Held). c.fault) g.rest) (ap (λ (c : Held). c.is_lost) g.rest) s (subst (λ (c : Held). OpenStands c (Out (frame_of g.control) ∷ r)) (sym g.rest) o);
      }

  -- ---- a part of an answer

  same-frame : (due : Due) → part_frame mid due ≡ part_frame old due
  same-frame due = ap (λ (c : Held). part_frame c due) m.rest

  ahead : (due : Due) → IsAhead old.answers due → IsAhead mid.answers due
  ahead due a = subst (λ (c : Held). IsAhead c.answers due) (sym m.rest) a

  goes-as : (due : Due) → IsNextIn old room (next.Part due) → PartGoes mid due bytes new → ((r : Record) → Settled mid r → OpenStands new (Out (part_frame mid due) ∷ r))
      → new.fault ≡ mid.fault → new.is_lost ≡ mid.is_lost → new.unwritten ≡ mid.unwritten + length bytes → Goes old room bytes new
  goes-as due n g stands fault lost counts =
      let frame = part_frame mid due in
      let same = same-frame due in
      record {
        frame = frame;
        spelled = g.takes.spelled;
        writable = g.takes.writable;
        in_range = g.takes.in_range;
        fits = (let long = ap length g.takes.spelled in let equal = ap frame_len same in let short = n.1.fits in omega (arith, long, short, equal));
        counted = counts ∙ ap (λ (c : Held). c.unwritten + length bytes) m.rest;
        due = λ r s. subst (λ (f : Frame). IsDue r f) (sym same) (part-due old r room due (stood old r None sound s) n);
        longest = λ r s. subst (λ (f : Frame). IsLongest r room f) (sym same) (part-longest old r (stood old r None sound s) room due n);
        stands = λ r s. stands-new r frame fault lost s (stands r (m.stands r (stood old r None sound s)));
      }

  pub goes-part : (due : Due) → IsNextIn old room (next.Part due) → PartGoes mid due bytes new → Goes old room bytes new
  goes-part due n g =
      let o = outside-part due.part g.taken due.stream new g.leaves in
      let t = g.takes.rest in
      goes-as due n g (λ r s. stands-by mid new due.stream due.part bytes r s (ahead due n.1.due.0) g)
      (o.fault ∙ ap (λ (c : Held). c.fault) t) (o.lost ∙ ap (λ (c : Held). c.is_lost) t) (o.unwritten ∙ ap (λ (c : Held). c.unwritten) t)

-- what the search tells of the windows
free-windows : (c : Held) (room id : ℕ) (p : Part) → IsFree (bounds_in c room) id p → IsWithinWindows c id p
free-windows c room id (part.Head end) free = tt
free-windows c room id (part.Body len) free = free
free-windows c room id part.Tail free = tt
free-windows c room id (part.Reset code) free = tt

within-same : (c : Held) (mid : Held) (id : ℕ) (p : Part) → mid ≡ record c { control = waiting_control c; owed = None; kept = mid.kept } → IsWithinWindows c id p → IsWithinWindows mid id p
within-same c mid id (part.Head end) rest w = tt
within-same c mid id (part.Body len) rest w = subst (λ (h : Held). IsWithinWindows h id (part.Body len)) (sym rest) w
within-same c mid id part.Tail rest w = tt
within-same c mid id (part.Reset code) rest w = tt

pub windows-of : (c mid : Held) (room : ℕ) (due : Due) → mid ≡ record c { control = waiting_control c; owed = None; kept = mid.kept } → IsNextIn c room (next.Part due) → IsWithinWindows mid due.stream due.part
windows-of c mid room due rest n = within-same c mid due.stream due.part rest (free-windows c room due.stream due.part n.1.due.1)
