-- What a frame that came leaves of the parts of a record that it doesn't speak of.
use Rattle.std.proofs.Common.{◌≡◌, ℕ, ◌+◌, ◌==◌, Bool, true, false, not, ◌&&◌, List, [], ◌∷◌, ◌++◌, map, Option, None, Some, refl, sym, ap, subst, ◌∙◌, append_assoc, true≢false, if◌then◌else◌}
use Rattle.std.proofs.lemmas.Bool.{eqb-true}
use Rattle.std.specs.Option.{option_or}
use Rattle.h2_frames.specs.declared.frame.Frame.{Frame}
use Rattle.h2_frames.specs.declared.frame.Frame.TheVariants as frames
use Rattle.h2_record.specs.declared.block.OwedCredit.{OwedCredit}
use Rattle.h2_record.specs.declared.control.Control.{Control}
use Rattle.h2_record.specs.Record.{Record, In, Out, Given, Whole, Broken}
use Rattle.h2_record.specs.Live.{is_live_with}
use Rattle.h2_record.specs.Resets.{is_open}
use Rattle.h2_record.specs.Faults.{fault_by, first_fault_of}
use Rattle.h2_record.specs.Credits.{owed_by, owed_of, kept_by, kept_of, is_free}
use Rattle.h2_record.specs.Control.{control_of, answer_to, frame_of, due_after, written_control_of}
use Rattle.h2_record.specs.Settling.{settled_control, settled_kept}
use Rattle.h2_record.proofs.BoolLemmas.{and-first}

-- no fault before and none by the frame
pub sound-in : (r : Record) (frame : Frame) → first_fault_of r ≡ None → fault_by r frame ≡ None → first_fault_of (In frame ∷ r) ≡ None
sound-in r frame sound none = ap (λ earlier. option_or earlier (fault_by r frame)) sound ∙ none

-- the control frames due are those settled and what the frame causes
pub control-in : (r : Record) (frame : Frame) → first_fault_of r ≡ None → fault_by r frame ≡ None → control_of (In frame ∷ r) ≡ settled_control r ++ answer_to frame
control-in r frame sound none =
    ap (λ earlier. due_after (control_of r) (answer_to frame) r earlier (fault_by r frame)) sound ∙ ap (due_after (control_of r) (answer_to frame) r None) none

pub map-more : (xs ys : List Control) → map frame_of (xs ++ ys) ≡ map frame_of xs ++ map frame_of ys
map-more [] ys = refl
map-more (x ∷ xs) ys = ap (λ more. frame_of x ∷ more) (map-more xs ys)

-- further control frames wait behind those that wait
pub controls-more : (written due : List Frame) (waiting more : List Control) → written ++ map frame_of waiting ≡ due
    → written ++ map frame_of (waiting ++ more) ≡ due ++ map frame_of more
controls-more written due waiting more same =
    ap (λ frames. written ++ frames) (map-more waiting more) ∙ sym (append_assoc written (map frame_of waiting) (map frame_of more)) ∙ ap (λ frames. frames ++ map frame_of more) same

-- credit is owed on a stream that is open
if-owed : (b : Bool) (stream bytes : ℕ) (owed : OwedCredit) → (if b then Some (record { stream = stream; bytes = bytes }) else None) ≡ Some owed → (b ≡ true) × (stream ≡ owed.stream)
if-owed true stream bytes owed e = (refl, cc)
if-owed false stream bytes owed e = absurd (cc)

owed_by-open : (r : Record) (frame : Frame) (owed : OwedCredit) → owed_by r frame ≡ Some owed → is_open r owed.stream ≡ true
owed_by-open r (frames.Body stream false bytes counted) owed e =
    let both = if-owed (is_open r stream && not (counted == 0)) stream counted owed e in
    subst (λ (s : ℕ). is_open r s ≡ true) both.1 (and-first (is_open r stream) (not (counted == 0)) both.0)
owed_by-open r (frames.Body stream true bytes counted) owed e = absurd (cc)
owed_by-open r (frames.Headers stream end whole block) owed e = absurd (cc)
owed_by-open r (frames.Priority stream) owed e = absurd (cc)
owed_by-open r (frames.Reset stream code) owed e = absurd (cc)
owed_by-open r (frames.Settings acked pairs) owed e = absurd (cc)
owed_by-open r (frames.Push stream) owed e = absurd (cc)
owed_by-open r (frames.Ping acked octets) owed e = absurd (cc)
owed_by-open r (frames.Goaway last code) owed e = absurd (cc)
owed_by-open r (frames.Window stream add) owed e = absurd (cc)
owed_by-open r (frames.Continuation stream whole block) owed e = absurd (cc)
owed_by-open r (frames.Unknown kind stream) owed e = absurd (cc)

pub owed-open : (r : Record) (owed : OwedCredit) → owed_of r ≡ Some owed → is_open r owed.stream ≡ true
unfolding is_live_with
owed-open [] owed e = absurd (cc)
owed-open (In frame ∷ r) owed e = owed_by-open (In frame ∷ r) frame owed e
owed-open (Out frame ∷ r) owed e = absurd (cc)
owed-open (Given stream part ∷ r) owed e = owed-open r owed e
owed-open (Whole ∷ r) owed e = owed-open r owed e
owed-open (Broken fault ∷ r) owed e = owed-open r owed e

if-false : (b : Bool) (n : ℕ) → b ≡ false → (if b then n else 0) ≡ 0
if-false true n e = absurd (true≢false e)
if-false false n e = refl

-- nothing is kept of a stream that isn't open
pub kept-closed : (r : Record) (id : ℕ) → is_open r id ≡ false → kept_of r id ≡ 0
unfolding is_live_with
kept-closed [] id shut = refl
kept-closed (In frame ∷ r) id shut = if-false (is_open (In frame ∷ r) id) (kept_of r id + kept_by r (owed_of r) id) shut
kept-closed (Out frame ∷ r) id shut =
    if-false (is_open (Out frame ∷ r) id && not (is_free (Out frame ∷ r) id)) (kept_of r id + kept_by r (owed_of r) id) (ap (λ b. b && not (is_free (Out frame ∷ r) id)) shut)
kept-closed (Given stream part ∷ r) id shut = kept-closed r id shut
kept-closed (Whole ∷ r) id shut = kept-closed r id shut
kept-closed (Broken fault ∷ r) id shut = kept-closed r id shut

kept_by-apart : (r : Record) (owed : OwedCredit) (id : ℕ) → (b : Bool) → (id == owed.stream) ≡ b → is_open r owed.stream ≡ true → is_open r id ≡ false → kept_by r (Some owed) id ≡ 0
kept_by-apart r owed id true same opened shut = absurd (true≢false (sym opened ∙ ap (is_open r) (sym (eqb-true id owed.stream same)) ∙ shut))
kept_by-apart r owed id false apart opened shut = ap (λ b. if b && not (is_free r owed.stream) then owed.bytes else 0) apart

kept_by-closed : (r : Record) (owed : Option OwedCredit) (id : ℕ) → owed_of r ≡ owed → is_open r id ≡ false → kept_by r owed id ≡ 0
kept_by-closed r None id e shut = refl
kept_by-closed r (Some owed) id e shut = kept_by-apart r owed id (id == owed.stream) refl (owed-open r owed e) shut

pub settled_kept-closed : (r : Record) (id : ℕ) → is_open r id ≡ false → settled_kept r id ≡ 0
settled_kept-closed r id shut = ap (λ kept. kept + kept_by r (owed_of r) id) (kept-closed r id shut) ∙ ap (λ by. 0 + by) (kept_by-closed r (owed_of r) id refl shut)

-- the kept credit of a stream that a frame leaves as it was
pub keep-by : (b now : Bool) (kept : ℕ) → now ≡ b → (b ≡ false → kept ≡ 0) → (if now then kept else 0) ≡ kept
keep-by true now kept same none = ap (λ b. if b then kept else 0) same
keep-by false now kept same none = ap (λ b. if b then kept else 0) same ∙ sym (none refl)

pub kept-in : (r : Record) (frame : Frame) (id : ℕ) → is_open (In frame ∷ r) id ≡ is_open r id → kept_of (In frame ∷ r) id ≡ settled_kept r id
kept-in r frame id same = keep-by (is_open r id) (is_open (In frame ∷ r) id) (settled_kept r id) same (settled_kept-closed r id)

-- the control frames that wait where a frame causes some
pub controls-in : (r : Record) (frame : Frame) (waiting more : List Control) → first_fault_of r ≡ None → fault_by r frame ≡ None
    → written_control_of r ++ map frame_of waiting ≡ settled_control r → answer_to frame ≡ map frame_of more
    → written_control_of r ++ map frame_of (waiting ++ more) ≡ control_of (In frame ∷ r)
controls-in r frame waiting more sound none same answer =
    controls-more (written_control_of r) (settled_control r) waiting more same ∙ ap (λ due. settled_control r ++ due) (sym answer) ∙ sym (control-in r frame sound none)
