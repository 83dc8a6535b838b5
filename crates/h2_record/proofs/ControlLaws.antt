-- The control frames that are due: SETTINGS is the first of them, and each WINDOW_UPDATE is on the connection or on a
-- stream that was begun.
use Rattle.std.proofs.Common.{◌≡◌, ℕ, ◌+◌, ◌<◌, ◌≤◌, ◌==◌, nat_lt, Bool, true, false, not, ◌&&◌, List, [], ◌∷◌, ◌++◌, Option, None, Some, refl, arith, if◌then◌else◌}
use Rattle.std.specs.List.{AllByRecursion}
use Rattle.h2_frames.specs.declared.frame.Frame.{Frame}
use Rattle.h2_frames.specs.declared.frame.Frame.TheVariants as frames
use Rattle.h2_frames.specs.declared.fault.H2Fault.{H2Fault}
use Rattle.h2_record.specs.declared.block.OwedCredit.{OwedCredit}
use Rattle.h2_record.specs.Record.{Record, In, Out, Given, Whole, Broken}
use Rattle.h2_record.specs.Ids.{last_of}
use Rattle.h2_record.specs.Resets.{is_live, is_open}
use Rattle.h2_record.specs.Faults.{first_fault_of, fault_by}
use Rattle.h2_record.specs.Credits.{owed_of, is_free, given_of, kept_of, kept_by, freed_sum, freed_by, credit}
use Rattle.h2_record.specs.Control.{answer_to, goaway, due_after, control_of}
use Rattle.h2_record.proofs.BoolLemmas.{and-first, and-second, lt-true}
use Rattle.h2_record.proofs.StepLemmas.{owed-open}
use Rattle.h2_record.proofs.LiveLaws.{live-within}

-- ---- what holds of all that is due, where it holds of each cause

module _ {X : Type 0} (P : X → Type 0) where
  pub all-append : (xs ys : List X) → AllByRecursion P xs → AllByRecursion P ys → AllByRecursion P (xs ++ ys)
  all-append [] ys all more = more
  all-append (x ∷ xs) ys all more = (all.0, all-append xs ys all.1 more)

  pub all-behind : (xs ys : List X) → AllByRecursion P (xs ++ ys) → AllByRecursion P ys
  all-behind [] ys all = all
  all-behind (x ∷ xs) ys all = all-behind xs ys all.1

module _ (P : Frame → Type 0) where
  pub all-due : (due answer : List Frame) (r : Record) (earlier fault : Option H2Fault) → AllByRecursion P due → AllByRecursion P (given_of r (owed_of r)) → AllByRecursion P answer
      → ((fault : H2Fault) → P (goaway r fault)) → AllByRecursion P (due_after due answer r earlier fault)
  all-due due answer r (Some earlier) fault all given more goes = all
  all-due due answer r None None all given more goes = all-append P (due ++ given_of r (owed_of r)) answer (all-append P due (given_of r (owed_of r)) all given) more
  all-due due answer r None (Some fault) all given more goes =
      all-append P (due ++ given_of r (owed_of r)) (goaway r fault ∷ []) (all-append P due (given_of r (owed_of r)) all given) (goes fault, tt)

  pub all-if : (b : Bool) (frame : Frame) → (b ≡ true → P frame) → AllByRecursion P (if b then frame ∷ [] else [])
  all-if true frame holds = (holds refl, tt)
  all-if false frame holds = tt

-- ---- each WINDOW_UPDATE is on a stream that was begun

abbrev pub IsBegunTo : (last : ℕ) → Frame → Type 0
IsBegunTo last (frames.Window stream add) = stream ≤ last
IsBegunTo last _ = Unit {0}

begun-more : (last later : ℕ) → last ≤ later → (frame : Frame) → IsBegunTo last frame → IsBegunTo later frame
begun-more last later h (frames.Window stream add) within = omega (arith, h, within)
begun-more last later h frame within = tt

all-more : (last later : ℕ) → last ≤ later → (xs : List Frame) → AllByRecursion (IsBegunTo last) xs → AllByRecursion (IsBegunTo later) xs
all-more last later h [] all = tt
all-more last later h (x ∷ xs) all = (begun-more last later h x all.0, all-more last later h xs all.1)

pub later-by : (b : Bool) (last stream : ℕ) → nat_lt last stream ≡ b → last ≤ (if b then stream else last)
later-by true last stream e = let h : last < stream = lt-true last stream e in omega (arith, h)
later-by false last stream e = omega arith

last-in : (r : Record) (frame : Frame) → last_of r ≤ last_of (In frame ∷ r)
last-in r (frames.Headers stream end whole fragment) = later-by (nat_lt (last_of r) stream) (last_of r) stream refl
last-in r (frames.Body stream ended bytes counted) = omega arith
last-in r (frames.Priority stream) = omega arith
last-in r (frames.Reset stream code) = omega arith
last-in r (frames.Settings acked pairs) = omega arith
last-in r (frames.Push stream) = omega arith
last-in r (frames.Ping acked octets) = omega arith
last-in r (frames.Goaway last code) = omega arith
last-in r (frames.Window stream add) = omega arith
last-in r (frames.Continuation stream whole fragment) = omega arith
last-in r (frames.Unknown kind stream) = omega arith

open-within : (r : Record) (id : ℕ) → is_open r id ≡ true → id ≤ last_of r
open-within r id opened = live-within r id (and-first (is_live r id) _ opened)

given-begun : (r : Record) (owed : Option OwedCredit) → owed_of r ≡ owed → AllByRecursion (IsBegunTo (last_of r)) (given_of r owed)
given-begun r None e = tt
given-begun r (Some owed) e = all-if (IsBegunTo (last_of r)) (is_free r owed.stream) (credit owed.stream owed.bytes) (λ free. open-within r owed.stream (owed-open r owed e))

answer-begun : (last : ℕ) (frame : Frame) → AllByRecursion (IsBegunTo last) (answer_to frame)
answer-begun last (frames.Settings false pairs) = (tt, tt)
answer-begun last (frames.Settings true pairs) = tt
answer-begun last (frames.Ping false octets) = (tt, tt)
answer-begun last (frames.Ping true octets) = tt
answer-begun last (frames.Body stream ended bytes counted) = by (counted == 0)
  where
    by : (b : Bool) → AllByRecursion (IsBegunTo last) (if b then [] else credit 0 counted ∷ [])
    by true = tt
    by false = (omega arith, tt)
answer-begun last (frames.Headers stream end whole fragment) = tt
answer-begun last (frames.Priority stream) = tt
answer-begun last (frames.Reset stream code) = tt
answer-begun last (frames.Push stream) = tt
answer-begun last (frames.Goaway last' code) = tt
answer-begun last (frames.Window stream add) = tt
answer-begun last (frames.Continuation stream whole fragment) = tt
answer-begun last (frames.Unknown kind stream) = tt

freed-begun : (r : Record) (stream sum : ℕ) → AllByRecursion (IsBegunTo (last_of r)) (freed_sum r stream sum)
freed-begun r stream sum = all-if (IsBegunTo (last_of r)) (not (sum == 0) && is_open r stream && is_free r stream) (credit stream sum)
    (λ freed. open-within r stream (and-second (not (sum == 0)) (is_open r stream) (and-first (not (sum == 0) && is_open r stream) (is_free r stream) freed)))

out-begun : (r : Record) (frame : Frame) → AllByRecursion (IsBegunTo (last_of r)) (freed_by r frame)
out-begun r (frames.Body stream ended bytes counted) = freed-begun (Out (frames.Body stream ended bytes counted) ∷ r) stream (kept_of r stream + kept_by r (owed_of r) stream)
out-begun r (frames.Headers stream end whole fragment) = tt
out-begun r (frames.Priority stream) = tt
out-begun r (frames.Reset stream code) = tt
out-begun r (frames.Settings acked pairs) = tt
out-begun r (frames.Push stream) = tt
out-begun r (frames.Ping acked octets) = tt
out-begun r (frames.Goaway last code) = tt
out-begun r (frames.Window stream add) = tt
out-begun r (frames.Continuation stream whole fragment) = tt
out-begun r (frames.Unknown kind stream) = tt

pub control-begun : (r : Record) → AllByRecursion (IsBegunTo (last_of r)) (control_of r)
control-begun [] = (tt, tt)
control-begun (In frame ∷ r) =
    all-more (last_of r) (last_of (In frame ∷ r)) (last-in r frame) _
    (all-due (IsBegunTo (last_of r)) (control_of r) (answer_to frame) r (first_fault_of r) (fault_by r frame) (control-begun r) (given-begun r (owed_of r) refl) (answer-begun (last_of r) frame) (λ fault. tt))
control-begun (Out frame ∷ r) =
    all-due (IsBegunTo (last_of r)) (control_of r) (freed_by r frame) r (first_fault_of r) None (control-begun r) (given-begun r (owed_of r) refl) (out-begun r frame) (λ fault. tt)
control-begun (Given stream part ∷ r) = control-begun r
control-begun (Whole ∷ r) = control-begun r
control-begun (Broken fault ∷ r) = all-due (IsBegunTo (last_of r)) (control_of r) [] r (first_fault_of r) (Some fault) (control-begun r) (given-begun r (owed_of r) refl) tt (λ fault. tt)

pub settled-begun : (r : Record) → AllByRecursion (IsBegunTo (last_of r)) (control_of r ++ given_of r (owed_of r))
settled-begun r = all-append (IsBegunTo (last_of r)) (control_of r) (given_of r (owed_of r)) (control-begun r) (given-begun r (owed_of r) refl)
