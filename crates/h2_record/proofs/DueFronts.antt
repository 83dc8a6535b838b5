-- Where each frame that went was due, the control frames and the resets that went are fronts of those due.
use Rattle.std.proofs.Common.{◌≡◌, ℕ, ◌+◌, ◌≤◌, ◌==◌, Bool, true, false, not, ◌&&◌, ◌⊎◌, inl, inr, List, [], ◌∷◌, ◌++◌, length, Option, None, Some, refl, sym, ap, subst, ◌∙◌, arith, append_assoc, append-nil, true≢false, if◌then◌else◌}
use Rattle.std.specs.List.{AllByRecursion}
use Rattle.h2_frames.specs.declared.frame.Frame.{Frame}
use Rattle.h2_frames.specs.declared.frame.Frame.TheVariants as frames
use Rattle.h2_frames.specs.declared.fault.H2Fault.{H2Fault}
use Rattle.h2_frames.specs.Sound.{IsFrame}
use Rattle.h2_frames.specs.Spelling.{spelling, frame_len}
use Rattle.h2_record.specs.declared.block.OwedCredit.{OwedCredit}
use Rattle.h2_record.specs.Record.{Record, In, Out, Given, Whole, Broken}
use Rattle.h2_record.specs.Ids.{last_of}
use Rattle.h2_record.specs.Live.{Reset}
use Rattle.h2_record.specs.Refusals.{first_reset}
use Rattle.h2_record.specs.Resets.{reset_by, reset_behind, with_reset, resets_of, is_live, is_open}
use Rattle.h2_record.specs.Faults.{first_fault_of, fault_by}
use Rattle.h2_record.specs.Credits.{owed_of, is_free, given_of, kept_of, kept_by, freed_by}
use Rattle.h2_record.specs.Control.{own_settings, answer_to, goaway, due_after, control_of, is_control, written_control_of}
use Rattle.h2_record.specs.Texts.{codes_on, written_codes}
use Rattle.h2_record.specs.Due.{settled_control_of, IsDue, IsNextControl, IsNextText, IsNextCode}
use Rattle.h2_record.specs.Written.{EachWasDue, IsFront}
use Rattle.h2_record.specs.Quiet.{EachFits}
use Rattle.h2_record.proofs.BoolLemmas.{same-eq}
use Rattle.h2_record.proofs.LiveLaws.{live-unreset, codes-none}
use Rattle.h2_record.proofs.ControlLaws.{all-due, all-if}
use Rattle.h2_record.proofs.WrittenLaws.{front-more, front-by}

-- ---- control frames

due-grows : (xs due answer : List Frame) (r : Record) (earlier fault : Option H2Fault) → IsFront xs due → IsFront xs (due_after due answer r earlier fault)
due-grows xs due answer r (Some earlier) fault f = f
due-grows xs due answer r None None f = front-more xs (due ++ given_of r (owed_of r)) answer (front-more xs due (given_of r (owed_of r)) f)
due-grows xs due answer r None (Some fault) f = front-more xs (due ++ given_of r (owed_of r)) (goaway r fault ∷ []) (front-more xs due (given_of r (owed_of r)) f)

-- what is settled, and what a frame that goes sets free behind it
settled-grows : (xs due answer : List Frame) (r : Record) (earlier : Option H2Fault) → IsFront xs (due_after due [] r earlier None) → IsFront xs (due_after due answer r earlier None)
settled-grows xs due answer r (Some earlier) f = f
settled-grows xs due answer r None f =
    front-more xs (due ++ given_of r (owed_of r)) answer (subst (λ (list : List Frame). IsFront xs list) (append-nil (due ++ given_of r (owed_of r))) f)

module _ (r : Record) where
  next-control : (frame : Frame) (answer : List Frame) → IsNextControl r frame → IsFront (written_control_of r ++ frame ∷ []) (due_after (control_of r) answer r (first_fault_of r) None)
  next-control frame answer next =
      settled-grows (written_control_of r ++ frame ∷ []) (control_of r) answer r (first_fault_of r) (next.behind, append_assoc (written_control_of r) (frame ∷ []) next.behind ∙ next.next)

  other-control : (answer : List Frame) → IsFront (written_control_of r) (control_of r) → IsFront (written_control_of r) (due_after (control_of r) answer r (first_fault_of r) None)
  other-control answer f = due-grows (written_control_of r) (control_of r) answer r (first_fault_of r) None f

  out-control : (frame : Frame) → IsDue r frame → IsFront (written_control_of r) (control_of r) → IsFront (written_control_of (Out frame ∷ r)) (control_of (Out frame ∷ r))
  out-control (frames.Settings acked pairs) due f = next-control (frames.Settings acked pairs) [] due
  out-control (frames.Ping acked octets) due f = next-control (frames.Ping acked octets) [] due
  out-control (frames.Goaway last code) due f = next-control (frames.Goaway last code) [] due
  out-control (frames.Window stream add) due f = next-control (frames.Window stream add) [] due
  out-control (frames.Body stream ended bytes counted) due f = other-control (freed_by r (frames.Body stream ended bytes counted)) f
  out-control (frames.Headers stream ended whole block) due f = other-control [] f
  out-control (frames.Priority stream) due f = other-control [] f
  out-control (frames.Reset stream code) due f = other-control [] f
  out-control (frames.Push stream) due f = other-control [] f
  out-control (frames.Continuation stream whole block) due f = other-control [] f
  out-control (frames.Unknown kind stream) due f = other-control [] f

pub control-front : (r : Record) → EachWasDue r → IsFront (written_control_of r) (control_of r)
control-front [] due = (control_of [], refl)
control-front (In frame ∷ r) due = due-grows (written_control_of r) (control_of r) (answer_to frame) r (first_fault_of r) (fault_by r frame) (control-front r due)
control-front (Out frame ∷ r) due = out-control r frame due.0 (control-front r due.1)
control-front (Given stream part ∷ r) due = control-front r due
control-front (Whole ∷ r) due = control-front r due
control-front (Broken fault ∷ r) due = due-grows (written_control_of r) (control_of r) [] r (first_fault_of r) (Some fault) (control-front r due)

pub settled-front : (r : Record) → EachWasDue r → IsFront (written_control_of r) (settled_control_of r)
settled-front r due = other-control r [] (control-front r due)

-- ---- they are short

pub record IsShortControl (frame : Frame) : Type 0 where
  pub control : is_control frame ≡ true
  pub short : frame_len frame ≤ 21

settings-short : IsShortControl (frames.Settings false own_settings)
unfolding spelling
settings-short = record { control = refl; short = omega arith }

ack-short : IsShortControl (frames.Settings true [])
unfolding spelling
ack-short = record { control = refl; short = omega arith }

pong-short : (octets : List ℕ) → length octets ≡ 8 → IsShortControl (frames.Ping true octets)
unfolding spelling
pong-short octets eight = record { control = refl; short = omega (arith, eight) }

goaway-short : (last code : ℕ) → IsShortControl (frames.Goaway last code)
unfolding spelling
goaway-short last code = record { control = refl; short = omega arith }

credit-short : (stream add : ℕ) → IsShortControl (frames.Window stream add)
unfolding spelling
credit-short stream add = record { control = refl; short = omega arith }

given-short : (r : Record) (owed : Option OwedCredit) → AllByRecursion IsShortControl (given_of r owed)
given-short r None = tt
given-short r (Some owed) = all-if IsShortControl (is_free r owed.stream) (frames.Window owed.stream owed.bytes) (λ free. credit-short owed.stream owed.bytes)

answer-short : (frame : Frame) → IsFrame frame → AllByRecursion IsShortControl (answer_to frame)
answer-short (frames.Settings false pairs) is = (ack-short, tt)
answer-short (frames.Settings true pairs) is = tt
answer-short (frames.Ping false octets) is = (pong-short octets is, tt)
answer-short (frames.Ping true octets) is = tt
answer-short (frames.Body stream ended bytes counted) is = by (counted == 0)
  where
    by : (b : Bool) → AllByRecursion IsShortControl (if b then [] else frames.Window 0 counted ∷ [])
    by true = tt
    by false = (credit-short 0 counted, tt)
answer-short (frames.Headers stream end whole fragment) is = tt
answer-short (frames.Priority stream) is = tt
answer-short (frames.Reset stream code) is = tt
answer-short (frames.Push stream) is = tt
answer-short (frames.Goaway last code) is = tt
answer-short (frames.Window stream add) is = tt
answer-short (frames.Continuation stream whole fragment) is = tt
answer-short (frames.Unknown kind stream) is = tt

freed-short : (r : Record) (frame : Frame) → AllByRecursion IsShortControl (freed_by r frame)
freed-short r (frames.Body stream ended bytes counted) =
    let sum = kept_of r stream + kept_by r (owed_of r) stream in
    let after = Out (frames.Body stream ended bytes counted) ∷ r in
    all-if IsShortControl (not (sum == 0) && is_open after stream && is_free after stream) (frames.Window stream sum) (λ freed. credit-short stream sum)
freed-short r (frames.Headers stream end whole fragment) = tt
freed-short r (frames.Priority stream) = tt
freed-short r (frames.Reset stream code) = tt
freed-short r (frames.Settings acked pairs) = tt
freed-short r (frames.Push stream) = tt
freed-short r (frames.Ping acked octets) = tt
freed-short r (frames.Goaway last code) = tt
freed-short r (frames.Window stream add) = tt
freed-short r (frames.Continuation stream whole fragment) = tt
freed-short r (frames.Unknown kind stream) = tt

module _ (r : Record) (short : AllByRecursion IsShortControl (control_of r)) where
  after-short : (answer : List Frame) (fault : Option H2Fault) → AllByRecursion IsShortControl answer → AllByRecursion IsShortControl (due_after (control_of r) answer r (first_fault_of r) fault)
  after-short answer fault more =
      all-due IsShortControl (control_of r) answer r (first_fault_of r) fault short (given-short r (owed_of r)) more (λ broken. goaway-short (last_of r) broken.code)

control-short : (r : Record) → EachFits r → AllByRecursion IsShortControl (control_of r)
control-short [] fits = (settings-short, tt)
control-short (In frame ∷ r) fits = after-short r (control-short r fits.1) (answer_to frame) (fault_by r frame) (answer-short frame fits.0)
control-short (Out frame ∷ r) fits = after-short r (control-short r fits) (freed_by r frame) None (freed-short r frame)
control-short (Given stream part ∷ r) fits = control-short r fits.1
control-short (Whole ∷ r) fits = control-short r fits
control-short (Broken fault ∷ r) fits = after-short r (control-short r fits) [] (Some fault) tt

pub settled-short : (r : Record) → EachFits r → AllByRecursion IsShortControl (settled_control_of r)
settled-short r fits = after-short r (control-short r fits) [] None tt

-- ---- resets

more-resets : (xs : List ℕ) (resets : List Reset) (x : Option Reset) (id : ℕ) → IsFront xs (codes_on resets id) → IsFront xs (codes_on (with_reset resets x) id)
more-resets xs resets None id f = f
more-resets xs resets (Some reset) id f = front-by (id == reset.stream) xs (codes_on resets id) (reset.code ∷ []) f

-- no reset is due on a live stream, and none went
pub codes-live : (r : Record) (id : ℕ) → is_live r id ≡ true → codes_on (resets_of r) id ≡ []
codes-live r id live = codes-none (resets_of r) id (live-unreset (resets_of r) r id live)

front-nil : (xs : List ℕ) → IsFront xs [] → xs ≡ []
front-nil [] f = refl
front-nil (x ∷ xs) f = let none = f.1 in absurd (cc)

module _ (r : Record) (id : ℕ) (f : IsFront (written_codes r id) (codes_on (resets_of r) id)) where
  -- the caller's reset of a live stream, on that stream
  aborted-codes : (stream code : ℕ) → (id == stream) ≡ true → is_live r stream ≡ true → IsFront (written_codes r id ++ code ∷ []) (codes_on (resets_of (Out (frames.Reset stream code) ∷ r)) id)
  unfolding reset_behind
  aborted-codes stream code same live =
      let codes = codes_on (resets_of r) id in
      let none : codes ≡ [] = codes-live r id (ap (is_live r) (same-eq id stream same) ∙ live) in
      let went : written_codes r id ≡ [] = front-nil (written_codes r id) (subst (λ (list : List ℕ). IsFront (written_codes r id) list) none f) in
      let now : codes_on (resets_of (Out (frames.Reset stream code) ∷ r)) id ≡ codes ++ code ∷ [] =
      (λ i. codes_on (with_reset (resets_of r) (if live i then first_reset stream code else None)) id) ∙ (λ i. if same i then codes ++ code ∷ [] else codes) in
      ([], append-nil (written_codes r id ++ code ∷ []) ∙ ap (λ list. list ++ code ∷ []) (went ∙ sym none) ∙ sym now)

  reset-codes : (stream code : ℕ) → IsNextText r stream (frames.Reset stream code) ⊎ IsNextCode r stream code → (id == stream) ≡ true
      → IsFront (written_codes r id ++ code ∷ []) (codes_on (resets_of (Out (frames.Reset stream code) ∷ r)) id)
  reset-codes stream code (inl next) same = aborted-codes stream code same next.live
  reset-codes stream code (inr next) same =
      let front : IsFront (written_codes r stream ++ code ∷ []) (codes_on (resets_of r) stream) = (next.behind, append_assoc (written_codes r stream) (code ∷ []) next.behind ∙ next.next) in
      more-resets (written_codes r id ++ code ∷ []) (resets_of r) (reset_behind (resets_of r) r (frames.Reset stream code)) id
      (subst (λ (n : ℕ). IsFront (written_codes r n ++ code ∷ []) (codes_on (resets_of r) n)) (sym (same-eq id stream same)) front)

  other-codes : (frame : Frame) → IsFront (written_codes r id) (codes_on (resets_of (Out frame ∷ r)) id)
  other-codes frame = more-resets (written_codes r id) (resets_of r) (reset_behind (resets_of r) r frame) id f

  codes-by : (b : Bool) (code : ℕ) (due : List ℕ) → IsFront (written_codes r id) due → (b ≡ true → IsFront (written_codes r id ++ code ∷ []) due)
      → IsFront (if b then written_codes r id ++ code ∷ [] else written_codes r id) due
  codes-by true code due g next = next refl
  codes-by false code due g next = g

  out-codes : (frame : Frame) → IsDue r frame → IsFront (written_codes (Out frame ∷ r) id) (codes_on (resets_of (Out frame ∷ r)) id)
  out-codes (frames.Reset stream code) due = codes-by (id == stream) code (codes_on (resets_of (Out (frames.Reset stream code) ∷ r)) id) (other-codes (frames.Reset stream code)) (reset-codes stream code due.next)
  out-codes (frames.Settings acked pairs) due = other-codes (frames.Settings acked pairs)
  out-codes (frames.Ping acked octets) due = other-codes (frames.Ping acked octets)
  out-codes (frames.Goaway last code) due = other-codes (frames.Goaway last code)
  out-codes (frames.Window stream add) due = other-codes (frames.Window stream add)
  out-codes (frames.Body stream ended bytes counted) due = other-codes (frames.Body stream ended bytes counted)
  out-codes (frames.Headers stream ended whole block) due = other-codes (frames.Headers stream ended whole block)
  out-codes (frames.Priority stream) due = other-codes (frames.Priority stream)
  out-codes (frames.Push stream) due = other-codes (frames.Push stream)
  out-codes (frames.Continuation stream whole block) due = other-codes (frames.Continuation stream whole block)
  out-codes (frames.Unknown kind stream) due = other-codes (frames.Unknown kind stream)

pub codes-front : (r : Record) → EachWasDue r → (id : ℕ) → IsFront (written_codes r id) (codes_on (resets_of r) id)
codes-front [] due id = ([], refl)
codes-front (In frame ∷ r) due id = more-resets (written_codes r id) (resets_of r) (reset_by (resets_of r) r frame) id (codes-front r due id)
codes-front (Out frame ∷ r) due id = out-codes r id (codes-front r due.1 id) frame due.0
codes-front (Given stream part ∷ r) due id = codes-front r due id
codes-front (Whole ∷ r) due id = codes-front r due id
codes-front (Broken fault ∷ r) due id = codes-front r due id
