-- The credit that a stream was given, that is kept of it and that it is owed is at most the payload that came on it.
use Rattle.std.proofs.Common.{◌≡◌, ℕ, ◌+◌, ◌<◌, ◌≤◌, ◌==◌, Bool, true, false, not, ◌&&◌, List, [], ◌∷◌, ◌++◌, Option, None, Some, refl, sym, ap, subst, ◌∙◌, arith, true≢false, if◌then◌else◌}
use Rattle.h2_frames.specs.declared.frame.Frame.{Frame}
use Rattle.h2_frames.specs.declared.frame.Frame.TheVariants as frames
use Rattle.h2_frames.specs.declared.fault.H2Fault.{H2Fault}
use Rattle.h2_record.specs.declared.block.OwedCredit.{OwedCredit}
use Rattle.h2_record.specs.Record.{Record, In, Out, Given, Whole, Broken, sum_in, sum_out}
use Rattle.h2_record.specs.Windows.{with_increment, with_payload}
use Rattle.h2_record.specs.Resets.{is_open}
use Rattle.h2_record.specs.Faults.{first_fault_of, fault_by}
use Rattle.h2_record.specs.Credits.{owed_of, owed_by, is_free, given_of, kept_of, kept_by, freed_sum, freed_by, credit}
use Rattle.h2_record.specs.Control.{answer_to, goaway, due_after, control_of, is_control, written_control_of}
use Rattle.h2_record.specs.Settling.{settled_control, settled_kept}
use Rattle.h2_record.proofs.BoolLemmas.{apart-above, same-eq, by-test}
use Rattle.h2_record.proofs.OptionLemmas.{first-of, second-of}

-- the increments of WINDOW_UPDATE on a stream
abbrev pub total : ℕ → List Frame → ℕ
total id [] = 0
total id (frame ∷ rest) = with_increment id frame (total id rest)

-- the bytes of the credit owed, where it is of the stream
abbrev pub owed_on : Option OwedCredit → ℕ → ℕ
owed_on None id = 0
owed_on (Some owed) id = if id == owed.stream then owed.bytes else 0

-- ---- sums of increments

increment-more : (id : ℕ) (frame : Frame) (a b : ℕ) → with_increment id frame (a + b) ≡ with_increment id frame a + b
increment-more id (frames.Window stream add) a b = by (id == stream)
  where
    by : (same : Bool) → (if same then (a + b) + add else a + b) ≡ (if same then a + add else a) + b
    by true = omega arith
    by false = refl
increment-more id frame a b = refl

pub total-append : (id : ℕ) (xs ys : List Frame) → total id (xs ++ ys) ≡ total id xs + total id ys
total-append id [] ys = omega arith
total-append id (x ∷ xs) ys = ap (with_increment id x) (total-append id xs ys) ∙ increment-more id x (total id xs) (total id ys)

-- of one WINDOW_UPDATE or none
total-if : (id stream add : ℕ) (b : Bool) → total id (if b then credit stream add ∷ [] else []) ≡ (if (id == stream) && b then add else 0)
total-if id stream add true = by (id == stream)
  where
    by : (same : Bool) → (if same then 0 + add else 0) ≡ (if same && true then add else 0)
    by true = omega arith
    by false = refl
total-if id stream add false = by (id == stream)
  where
    by : (same : Bool) → 0 ≡ (if same && false then add else 0)
    by true = refl
    by false = refl

-- ---- what went

-- a frame that is no control frame is no WINDOW_UPDATE
increment-none : (id : ℕ) (frame : Frame) (sum : ℕ) → is_control frame ≡ false → with_increment id frame sum ≡ sum
increment-none id (frames.Window stream add) sum none = absurd (true≢false none)
increment-none id frame sum none = refl

increment-start : (id : ℕ) (frame : Frame) (sum : ℕ) → sum + with_increment id frame 0 ≡ with_increment id frame sum
increment-start id (frames.Window stream add) sum = by (id == stream)
  where
    by : (same : Bool) → sum + (if same then 0 + add else 0) ≡ (if same then sum + add else sum)
    by true = omega arith
    by false = omega arith
increment-start id frame sum = omega arith

written-by : (id : ℕ) (frame : Frame) (written : List Frame) (b : Bool) → is_control frame ≡ b → total id (if b then written ++ frame ∷ [] else written) ≡ with_increment id frame (total id written)
written-by id frame written true control = total-append id written (frame ∷ []) ∙ increment-start id frame (total id written)
written-by id frame written false control = sym (increment-none id frame (total id written) control)

pub total-written : (r : Record) (id : ℕ) → total id (written_control_of r) ≡ sum_out (with_increment id) 0 r
total-written [] id = refl
total-written (Out frame ∷ r) id = written-by id frame (written_control_of r) (is_control frame) refl ∙ ap (with_increment id frame) (total-written r id)
total-written (In frame ∷ r) id = total-written r id
total-written (Given stream part ∷ r) id = total-written r id
total-written (Whole ∷ r) id = total-written r id
total-written (Broken fault ∷ r) id = total-written r id

-- beside what a window has at first
pub total-allowed : (r : Record) (id start : ℕ) → sum_out (with_increment id) start r ≡ total id (written_control_of r) + start
total-allowed [] id start = omega arith
total-allowed (Out frame ∷ r) id start =
    ap (with_increment id frame) (total-allowed r id start) ∙ increment-more id frame (total id (written_control_of r)) start
    ∙ ap (λ sum. sum + start) (sym (written-by id frame (written_control_of r) (is_control frame) refl))
total-allowed (In frame ∷ r) id start = total-allowed r id start
total-allowed (Given stream part ∷ r) id start = total-allowed r id start
total-allowed (Whole ∷ r) id start = total-allowed r id start
total-allowed (Broken fault ∷ r) id start = total-allowed r id start

-- ---- the credit of the latest frame is given or kept, and not both

split-by : (same free : Bool) (bytes : ℕ) → (if same && free then bytes else 0) + (if same && not free then bytes else 0) ≡ (if same then bytes else 0)
split-by true true bytes = omega arith
split-by true false bytes = omega arith
split-by false free bytes = refl

given-kept : (r : Record) (owed : Option OwedCredit) (id : ℕ) → total id (given_of r owed) + kept_by r owed id ≡ owed_on owed id
given-kept r None id = refl
given-kept r (Some owed) id = ap (λ sum. sum + kept_by r (Some owed) id) (total-if id owed.stream owed.bytes (is_free r owed.stream)) ∙ split-by (id == owed.stream) (is_free r owed.stream) owed.bytes

-- ---- what a frame that came adds

-- it is owed at most its payload
owed-by : (b : Bool) (id stream counted sum : ℕ) → sum + owed_on (if b then Some (record { stream = stream; bytes = counted }) else None) id ≤ (if id == stream then sum + counted else sum)
owed-by true id stream counted sum = by (id == stream)
  where
    by : (same : Bool) → sum + (if same then counted else 0) ≤ (if same then sum + counted else sum)
    by true = omega arith
    by false = omega arith
owed-by false id stream counted sum = by (id == stream)
  where
    by : (same : Bool) → sum + 0 ≤ (if same then sum + counted else sum)
    by true = omega arith
    by false = omega arith

owed-in : (r : Record) (frame : Frame) (id sum : ℕ) → sum + owed_on (owed_by r frame) id ≤ with_payload id frame sum
owed-in r (frames.Body stream false bytes counted) id sum = owed-by (is_open r stream && not (counted == 0)) id stream counted sum
owed-in r (frames.Body stream true bytes counted) id sum = owed-by false id stream counted sum
owed-in r frame id sum = omega arith

-- and its answer is no credit of a stream
answer-none : (id : ℕ) (frame : Frame) → 0 < id → total id (answer_to frame) ≡ 0
answer-none id (frames.Settings false pairs) h = refl
answer-none id (frames.Settings true pairs) h = refl
answer-none id (frames.Ping false octets) h = refl
answer-none id (frames.Ping true octets) h = refl
answer-none id (frames.Body stream ended bytes counted) h = by (counted == 0)
  where
    by : (b : Bool) → total id (if b then [] else credit 0 counted ∷ []) ≡ 0
    by true = refl
    by false = ap (λ same. if same then 0 + counted else 0) (apart-above id 0 h)
answer-none id frame h = refl

if-most : (b : Bool) (n : ℕ) → (if b then n else 0) ≤ n
if-most true n = omega arith
if-most false n = omega arith

-- ---- what a frame that went sets free is kept no more

total-most : (id stream add : ℕ) (b : Bool) → total id (if b then credit stream add ∷ [] else []) ≤ (if b then add else 0)
total-most id stream add true = by (id == stream)
  where
    by : (same : Bool) → (if same then 0 + add else 0) ≤ add
    by true = omega arith
    by false = omega arith
total-most id stream add false = omega arith

freed-by : (opened free some : Bool) (sum : ℕ) → (if opened && not free then sum else 0) + (if some && opened && free then sum else 0) ≤ sum
freed-by true true true sum = omega arith
freed-by true true false sum = omega arith
freed-by true false true sum = omega arith
freed-by true false false sum = omega arith
freed-by false free true sum = omega arith
freed-by false free false sum = omega arith

freed-here : (r : Record) (id sum : ℕ) → (if is_open r id && not (is_free r id) then sum else 0) + total id (freed_sum r id sum) ≤ sum
freed-here r id sum =
    omega (arith, total-most id id sum (not (sum == 0) && is_open r id && is_free r id), freed-by (is_open r id) (is_free r id) (not (sum == 0)) sum)

freed-apart : (r : Record) (id stream sum : ℕ) → (id == stream) ≡ false → total id (freed_sum r stream sum) ≡ 0
freed-apart r id stream sum apart =
    total-if id stream sum (not (sum == 0) && is_open r stream && is_free r stream)
    ∙ (λ i. if apart i && (not (sum == 0) && is_open r stream && is_free r stream) then sum else 0)

-- so it is kept, freed or dropped
kept-out : (r : Record) (frame : Frame) (id : ℕ) (freed : ℕ) → freed ≡ 0 → kept_of (Out frame ∷ r) id + freed ≤ settled_kept r id
kept-out r frame id freed none = omega (arith, none, if-most (is_open (Out frame ∷ r) id && not (is_free (Out frame ∷ r) id)) (settled_kept r id))

freed-out : (r : Record) (frame : Frame) (id : ℕ) → kept_of (Out frame ∷ r) id + total id (freed_by r frame) ≤ settled_kept r id
freed-out r (frames.Body stream ended bytes counted) id =
    let after : Record = Out (frames.Body stream ended bytes counted) ∷ r in
    by-test (id == stream)
    (λ same. subst (λ (s : ℕ). kept_of after id + total id (freed_sum after s (settled_kept r s)) ≤ settled_kept r id) (same-eq id stream same) (freed-here after id (settled_kept r id)))
    (λ apart. kept-out r (frames.Body stream ended bytes counted) id _ (freed-apart after id stream (settled_kept r stream) apart))
freed-out r frame id = kept-out r frame id 0 refl

-- ---- the ledger

due-most : (due answer : List Frame) (r : Record) (earlier fault : Option H2Fault) (id : ℕ)
    → total id (due_after due answer r earlier fault) ≤ (total id due + total id (given_of r (owed_of r))) + total id answer
due-most due answer r (Some earlier) fault id = omega arith
due-most due answer r None None id = omega (arith, total-append id (due ++ given_of r (owed_of r)) answer, total-append id due (given_of r (owed_of r)))
due-most due answer r None (Some fault) id = omega (arith, total-append id (due ++ given_of r (owed_of r)) (goaway r fault ∷ []), total-append id due (given_of r (owed_of r)))

ledger-in : (r : Record) (frame : Frame) (id : ℕ) → 0 < id → total id (control_of r) + kept_of r id + owed_on (owed_of r) id ≤ sum_in (with_payload id) 0 r
    → total id (control_of (In frame ∷ r)) + kept_of (In frame ∷ r) id + owed_on (owed_of (In frame ∷ r)) id ≤ sum_in (with_payload id) 0 (In frame ∷ r)
ledger-in r frame id h before =
    omega (
      arith,
      before,
      due-most (control_of r) (answer_to frame) r (first_fault_of r) (fault_by r frame) id,
      given-kept r (owed_of r) id,
      answer-none id frame h,
      if-most (is_open (In frame ∷ r) id) (settled_kept r id),
      owed-in (In frame ∷ r) frame id (sum_in (with_payload id) 0 r),
    )

ledger-out : (r : Record) (frame : Frame) (id : ℕ) → total id (control_of r) + kept_of r id + owed_on (owed_of r) id ≤ sum_in (with_payload id) 0 r
    → total id (control_of (Out frame ∷ r)) + kept_of (Out frame ∷ r) id + 0 ≤ sum_in (with_payload id) 0 r
ledger-out r frame id before =
    omega (arith, before, due-most (control_of r) (freed_by r frame) r (first_fault_of r) None id, given-kept r (owed_of r) id, freed-out r frame id)

pub ledger : (r : Record) (id : ℕ) → 0 < id → first_fault_of r ≡ None → total id (control_of r) + kept_of r id + owed_on (owed_of r) id ≤ sum_in (with_payload id) 0 r
ledger [] id h sound = omega arith
ledger (In frame ∷ r) id h sound = ledger-in r frame id h (ledger r id h (first-of (first_fault_of r) (fault_by r frame) sound))
ledger (Out frame ∷ r) id h sound = ledger-out r frame id (ledger r id h sound)
ledger (Given stream part ∷ r) id h sound = ledger r id h sound
ledger (Whole ∷ r) id h sound = ledger r id h sound
ledger (Broken fault ∷ r) id h sound = let none : Some fault ≡ None = second-of (first_fault_of r) (Some fault) sound in absurd (cc)

-- the same once the credit of the latest frame is given or kept
pub settled-ledger : (r : Record) (id : ℕ) → 0 < id → first_fault_of r ≡ None → total id (settled_control r) + settled_kept r id ≤ sum_in (with_payload id) 0 r
settled-ledger r id h sound = omega (arith, ledger r id h sound, total-append id (control_of r) (given_of r (owed_of r)), given-kept r (owed_of r) id)

-- ---- the credit that is given, also behind a fault

due-within : (r : Record) (answer : List Frame) (fault : Option H2Fault) (id : ℕ) → 0 < id → total id answer ≤ settled_kept r id → total id (control_of r) ≤ sum_in (with_payload id) 0 r
    → (earlier : Option H2Fault) → first_fault_of r ≡ earlier → total id (due_after (control_of r) answer r earlier fault) ≤ sum_in (with_payload id) 0 r
due-within r answer fault id h freed before (Some earlier) e = before
due-within r answer fault id h freed before None e = omega (arith, freed, ledger r id h e, given-kept r (owed_of r) id, due-most (control_of r) answer r None fault id)

pub credit-within : (r : Record) (id : ℕ) → 0 < id → total id (control_of r) ≤ sum_in (with_payload id) 0 r
credit-within [] id h = omega arith
credit-within (In frame ∷ r) id h =
    omega (
      arith,
      owed-in r frame id (sum_in (with_payload id) 0 r),
      due-within r (answer_to frame) (fault_by r frame) id h (omega (arith, answer-none id frame h)) (credit-within r id h) (first_fault_of r) refl,
    )
credit-within (Out frame ∷ r) id h =
    due-within r (freed_by r frame) None id h (omega (arith, freed-out r frame id)) (credit-within r id h) (first_fault_of r) refl
credit-within (Given stream part ∷ r) id h = credit-within r id h
credit-within (Whole ∷ r) id h = credit-within r id h
credit-within (Broken fault ∷ r) id h = due-within r [] (Some fault) id h (omega arith) (credit-within r id h) (first_fault_of r) refl
