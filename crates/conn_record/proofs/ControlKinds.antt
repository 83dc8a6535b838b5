-- The control frames that are due: their kinds, and how long they are.
use Rattle.std.proofs.Common.{◌≡◌, ℕ, ◌+◌, ◌≤◌, ◌==◌, Bool, true, false, not, ◌&&◌, List, [], ◌∷◌, length, Option, None, Some, refl, sym, subst, ◌∙◌, true≢false, arith, if◌then◌else◌}
use Rattle.std.specs.List.{AllByRecursion}
use Rattle.h2_frames.specs.declared.frame.Frame.{Frame}
use Rattle.h2_frames.specs.declared.frame.Frame.TheVariants as frames
use Rattle.h2_frames.specs.Spelling.{spelling, frame_len}
use Rattle.h2_record.specs.declared.block.OwedCredit.{OwedCredit}
use Rattle.h2_record.specs.Record.{Record, In, Out, Given, Whole, Broken}
use Rattle.h2_record.specs.Resets.{is_open}
use Rattle.h2_record.specs.Faults.{first_fault_of, fault_by}
use Rattle.h2_record.specs.Credits.{owed_of, is_free, given_of, kept_of, kept_by, freed_by, credit}
use Rattle.h2_record.specs.Control.{own_settings, answer_to, control_of, written_control_of, is_control}
use Rattle.h2_record.specs.Due.{IsDue, IsNextControl, settled_control_of}
use Rattle.h2_record.proofs.ControlLaws.{all-behind, all-due, all-if}
use Rattle.conn_record.specs.Marks.{EachIsFrame}
use Rattle.conn_record.specs.Fronts.{IsServerFrame, OnlyServerFrames}
use Rattle.conn_record.proofs.Fronts.{due-in-place}

-- ---- what holds of each kind holds of all that are due

-- of the octets of each PING that came
module _ (Q : List ℕ → Type 0) where
  abbrev Asks : Frame → Type 0
  Asks (frames.Ping acked octets) = Q octets
  Asks _ = Unit {0}

  abbrev EachAsks : Record → Type 0
  EachAsks [] = Unit {0}
  EachAsks (In frame ∷ r) = Asks frame × EachAsks r
  EachAsks (Out frame ∷ r) = EachAsks r
  EachAsks (Given stream part ∷ r) = EachAsks r
  EachAsks (Whole ∷ r) = EachAsks r
  EachAsks (Broken fault ∷ r) = EachAsks r

module _ (P : Frame → Type 0) (Q : List ℕ → Type 0) (own : P (frames.Settings false own_settings)) (acked : P (frames.Settings true [])) (pong : (octets : List ℕ) → Q octets → P (frames.Ping true octets))
    (goes : (last code : ℕ) → P (frames.Goaway last code)) (credits : (stream add : ℕ) → P (frames.Window stream add)) where
  given-all : (r : Record) (owed : Option OwedCredit) → AllByRecursion P (given_of r owed)
  given-all r None = tt
  given-all r (Some owed) = all-if P (is_free r owed.stream) (credit owed.stream owed.bytes) (λ free. credits owed.stream owed.bytes)

  answer-all : (frame : Frame) → Asks Q frame → AllByRecursion P (answer_to frame)
  answer-all (frames.Settings false pairs) q = (acked, tt)
  answer-all (frames.Settings true pairs) q = tt
  answer-all (frames.Ping false octets) q = (pong octets q, tt)
  answer-all (frames.Ping true octets) q = tt
  answer-all (frames.Body stream ended bytes counted) q = by (counted == 0)
    where
      by : (b : Bool) → AllByRecursion P (if b then [] else credit 0 counted ∷ [])
      by true = tt
      by false = (credits 0 counted, tt)
  answer-all (frames.Headers stream ended whole block) q = tt
  answer-all (frames.Priority stream) q = tt
  answer-all (frames.Reset stream code) q = tt
  answer-all (frames.Push stream) q = tt
  answer-all (frames.Goaway last code) q = tt
  answer-all (frames.Window stream add) q = tt
  answer-all (frames.Continuation stream whole block) q = tt
  answer-all (frames.Unknown kind stream) q = tt

  freed-all : (r : Record) (frame : Frame) → AllByRecursion P (freed_by r frame)
  freed-all r (frames.Body stream ended bytes counted) =
      let sum = kept_of r stream + kept_by r (owed_of r) stream in
      let after = Out (frames.Body stream ended bytes counted) ∷ r in
      all-if P (not (sum == 0) && is_open after stream && is_free after stream) (frames.Window stream sum) (λ freed. credits stream sum)
  freed-all r (frames.Headers stream ended whole block) = tt
  freed-all r (frames.Priority stream) = tt
  freed-all r (frames.Reset stream code) = tt
  freed-all r (frames.Settings acked' pairs) = tt
  freed-all r (frames.Push stream) = tt
  freed-all r (frames.Ping acked' octets) = tt
  freed-all r (frames.Goaway last code) = tt
  freed-all r (frames.Window stream add) = tt
  freed-all r (frames.Continuation stream whole block) = tt
  freed-all r (frames.Unknown kind stream) = tt

  control-all : (r : Record) → EachAsks Q r → AllByRecursion P (control_of r)
  control-all [] each = (own, tt)
  control-all (In frame ∷ r) each =
      all-due P (control_of r) (answer_to frame) r (first_fault_of r) (fault_by r frame) (control-all r each.1) (given-all r (owed_of r)) (answer-all frame each.0) (λ fault. goes _ _)
  control-all (Out frame ∷ r) each =
      all-due P (control_of r) (freed_by r frame) r (first_fault_of r) None (control-all r each) (given-all r (owed_of r)) (freed-all r frame) (λ fault. goes _ _)
  control-all (Given stream part ∷ r) each = control-all r each
  control-all (Whole ∷ r) each = control-all r each
  control-all (Broken fault ∷ r) each =
      all-due P (control_of r) [] r (first_fault_of r) (Some fault) (control-all r each) (given-all r (owed_of r)) tt (λ fault. goes _ _)

  settled-all : (r : Record) → EachAsks Q r → AllByRecursion P (settled_control_of r)
  settled-all r each = all-due P (control_of r) [] r (first_fault_of r) None (control-all r each) (given-all r (owed_of r)) tt (λ fault. goes _ _)

  -- and of the next of them
  next-is : (r : Record) (frame : Frame) → EachAsks Q r → IsNextControl r frame → P frame
  next-is r frame each next = (all-behind P (written_control_of r) (frame ∷ next.behind) (subst (λ (fs : List Frame). AllByRecursion P fs) (sym next.next) (settled-all r each))).0

-- ---- kinds

abbrev IsControlKind : Frame → Type 0
IsControlKind frame = is_control frame ≡ true

asks-nothing : (r : Record) → EachAsks (λ octets. Unit {0}) r
asks-nothing [] = tt
asks-nothing (In (frames.Ping acked octets) ∷ r) = (tt, asks-nothing r)
asks-nothing (In (frames.Body stream ended bytes counted) ∷ r) = (tt, asks-nothing r)
asks-nothing (In (frames.Headers stream ended whole block) ∷ r) = (tt, asks-nothing r)
asks-nothing (In (frames.Priority stream) ∷ r) = (tt, asks-nothing r)
asks-nothing (In (frames.Reset stream code) ∷ r) = (tt, asks-nothing r)
asks-nothing (In (frames.Settings acked pairs) ∷ r) = (tt, asks-nothing r)
asks-nothing (In (frames.Push stream) ∷ r) = (tt, asks-nothing r)
asks-nothing (In (frames.Goaway last code) ∷ r) = (tt, asks-nothing r)
asks-nothing (In (frames.Window stream add) ∷ r) = (tt, asks-nothing r)
asks-nothing (In (frames.Continuation stream whole block) ∷ r) = (tt, asks-nothing r)
asks-nothing (In (frames.Unknown kind stream) ∷ r) = (tt, asks-nothing r)
asks-nothing (Out frame ∷ r) = asks-nothing r
asks-nothing (Given stream part ∷ r) = asks-nothing r
asks-nothing (Whole ∷ r) = asks-nothing r
asks-nothing (Broken fault ∷ r) = asks-nothing r

pub next-kind : (r : Record) (frame : Frame) → IsNextControl r frame → is_control frame ≡ true
next-kind r frame next = next-is IsControlKind (λ octets. Unit {0}) refl refl (λ octets q. refl) (λ last code. refl) (λ stream add. refl) r frame (asks-nothing r) next

other-kind : (r : Record) (frame : Frame) → IsNextControl r frame → is_control frame ≡ false → ⊥
other-kind r frame next other = true≢false (sym (next-kind r frame next) ∙ other)

due-kind : (r : Record) (frame : Frame) → IsDue r frame → IsServerFrame frame
due-kind r (frames.Headers stream ended whole block) due = due.in_one
due-kind r (frames.Body stream ended bytes counted) due = (due.goes_on, due.unpadded)
due-kind r (frames.Reset stream code) due = tt
due-kind r (frames.Settings acked pairs) due = tt
due-kind r (frames.Ping acked octets) due = tt
due-kind r (frames.Goaway last code) due = tt
due-kind r (frames.Window stream add) due = tt
due-kind r (frames.Priority stream) due = other-kind r (frames.Priority stream) due refl
due-kind r (frames.Push stream) due = other-kind r (frames.Push stream) due refl
due-kind r (frames.Continuation stream whole block) due = other-kind r (frames.Continuation stream whole block) due refl
due-kind r (frames.Unknown kind stream) due = other-kind r (frames.Unknown kind stream) due refl

pub only-server-frames : OnlyServerFrames
only-server-frames newer older frame each = due-kind older frame (due-in-place newer older frame each)

-- a control frame that is the next is due
pub control-due : (r : Record) (frame : Frame) → IsNextControl r frame → IsDue r frame
control-due r (frames.Settings acked pairs) next = next
control-due r (frames.Ping acked octets) next = next
control-due r (frames.Goaway last code) next = next
control-due r (frames.Window stream add) next = next
control-due r (frames.Priority stream) next = next
control-due r (frames.Push stream) next = next
control-due r (frames.Continuation stream whole block) next = next
control-due r (frames.Unknown kind stream) next = next
control-due r (frames.Headers stream ended whole block) next = absurd (other-kind r (frames.Headers stream ended whole block) next refl)
control-due r (frames.Body stream ended bytes counted) next = absurd (other-kind r (frames.Body stream ended bytes counted) next refl)
control-due r (frames.Reset stream code) next = absurd (other-kind r (frames.Reset stream code) next refl)

-- ---- lengths

-- the longest is the server's SETTINGS
abbrev IsBrief : Frame → Type 0
IsBrief frame = frame_len frame ≤ 21

abbrev AreEight : List ℕ → Type 0
AreEight octets = length octets ≡ 8

asks-eight : (r : Record) → EachIsFrame r → EachAsks AreEight r
asks-eight [] each = tt
asks-eight (In (frames.Ping acked octets) ∷ r) each = (each.0, asks-eight r each.1)
asks-eight (In (frames.Body stream ended bytes counted) ∷ r) each = (tt, asks-eight r each.1)
asks-eight (In (frames.Headers stream ended whole block) ∷ r) each = (tt, asks-eight r each.1)
asks-eight (In (frames.Priority stream) ∷ r) each = (tt, asks-eight r each.1)
asks-eight (In (frames.Reset stream code) ∷ r) each = (tt, asks-eight r each.1)
asks-eight (In (frames.Settings acked pairs) ∷ r) each = (tt, asks-eight r each.1)
asks-eight (In (frames.Push stream) ∷ r) each = (tt, asks-eight r each.1)
asks-eight (In (frames.Goaway last code) ∷ r) each = (tt, asks-eight r each.1)
asks-eight (In (frames.Window stream add) ∷ r) each = (tt, asks-eight r each.1)
asks-eight (In (frames.Continuation stream whole block) ∷ r) each = (tt, asks-eight r each.1)
asks-eight (In (frames.Unknown kind stream) ∷ r) each = (tt, asks-eight r each.1)
asks-eight (Out frame ∷ r) each = asks-eight r each
asks-eight (Given stream part ∷ r) each = asks-eight r each
asks-eight (Whole ∷ r) each = asks-eight r each
asks-eight (Broken fault ∷ r) each = asks-eight r each

own-len : frame_len (frames.Settings false own_settings) ≡ 21
unfolding spelling
own-len = refl

acked-len : frame_len (frames.Settings true []) ≡ 9
unfolding spelling
acked-len = refl

pong-len : (octets : List ℕ) → frame_len (frames.Ping true octets) ≡ 9 + length octets
unfolding spelling
pong-len octets = omega arith

goaway-len : (last code : ℕ) → frame_len (frames.Goaway last code) ≡ 17
unfolding spelling
goaway-len last code = refl

window-len : (stream add : ℕ) → frame_len (frames.Window stream add) ≡ 13
unfolding spelling
window-len stream add = refl

pub next-brief : (r : Record) (frame : Frame) → EachIsFrame r → IsNextControl r frame → frame_len frame ≤ 21
next-brief r frame each next =
    next-is IsBrief AreEight (omega (arith, own-len)) (omega (arith, acked-len)) (λ octets eight. omega (arith, pong-len octets, eight)) (λ last code. omega (arith, goaway-len last code))
    (λ stream add. omega (arith, window-len stream add)) r frame (asks-eight r each) next
