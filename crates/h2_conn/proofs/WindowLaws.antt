-- The payload that came on a live stream is within what the stream was allowed, so no credit overflows its window.
use Rattle.std.proofs.Common.{◌≡◌, ℕ, ◌+◌, ◌-◌, ◌^◌, ◌%◌, ◌<◌, ◌≤◌, ◌==◌, nat_lt, Bool, true, false, not, ◌&&◌, ◌||◌, List, [], ◌∷◌, ◌++◌, map, Option, None, Some, pos, ◌+ℤ◌, ◌≤ℤ◌, int_lt, refl, sym, ap, subst, ◌∙◌, arith, true≢false, zero, suc, if◌then◌else◌}
use Rattle.std.proofs.lemmas.Int.{ints}
use Rattle.h2_frames.specs.declared.frame.Frame.{Frame}
use Rattle.h2_frames.specs.declared.frame.Frame.TheVariants as frames
use Rattle.h2_flow.specs.Range.{greatest}
use Rattle.h2_streams.specs.declared.stream.Stream.{Stream}
use Rattle.h2_streams.specs.declared.stream.StreamState.{StreamState}
use Rattle.h2_streams.specs.declared.stream.StreamState.TheVariants as is
use Rattle.h2_streams.specs.Book.{find}
use Rattle.h2_record.specs.declared.block.OwedCredit.{OwedCredit}
use Rattle.h2_record.specs.declared.control.Control.{Control}
use Rattle.h2_record.specs.declared.control.Control.TheVariants as control
use Rattle.h2_record.specs.Record.{Record, In, Out, Given, Whole, Broken, any_in, any_out, has_begun, sum_in, sum_out}
use Rattle.h2_record.specs.Windows.{first_window, with_increment, with_payload, receive_window_of}
use Rattle.h2_record.specs.Ids.{last_of}
use Rattle.h2_record.specs.Blocks.{open_of}
use Rattle.h2_record.specs.Live.{opens, ends, finishes, cancels, is_reset, is_live_with, is_idle_above, entry_of}
use Rattle.h2_record.specs.Resets.{reset_by, reset_behind, with_reset, resets_of, is_live, state_of}
use Rattle.h2_record.specs.Refusals.{body_refusal, first_reset}
use Rattle.h2_record.specs.Faults.{fault_by, first_fault_of}
use Rattle.h2_record.specs.Credits.{owed_of}
use Rattle.h2_record.specs.Control.{control_of, written_control_of, frame_of}
use Rattle.h2_conn.specs.KeptCredit.{kept_on}
use Rattle.h2_conn.specs.Held.{Held}
use Rattle.h2_conn.specs.Stands.{OpenStands}
use Rattle.h2_record.specs.Settling.{settled_control}
use Rattle.h2_record.specs.Early.{early_fault, late_fault}
use Rattle.h2_conn.specs.Taking.{Settled}
use Rattle.h2_record.proofs.BoolLemmas.{or-second, same-self, and-first, apart-above, lt-false, same-eq, by-test}
use Rattle.h2_record.proofs.OptionLemmas.{first-of, second-of}
use Rattle.h2_record.proofs.FaultLemmas.{not-even, body-begun}
use Rattle.h2_record.proofs.FaultSplit.{fault-split}
use Rattle.h2_record.proofs.StepLemmas.{owed-open}
use Rattle.h2_conn.proofs.StateLemmas.{state-live, state-ended, state-closed, state-idle, risen-of}
use Rattle.h2_record.proofs.LiveLaws.{live-unreset}
use Rattle.h2_conn.proofs.ResetLemmas.{is_of, is_reset-with, still-shut, reset-shut, remembered-reset}
use Rattle.h2_conn.proofs.BodySteps.{made-body}
use Rattle.h2_conn.proofs.HeaderSteps.{made-headers}
use Rattle.h2_conn.proofs.WindowSteps.{live-zero}
use Rattle.h2_record.proofs.ControlLaws.{later-by}
use Rattle.h2_record.proofs.Ledger.{total, owed_on, total-append, total-allowed, ledger, settled-ledger}

-- ---- a stream that lives lived before, unless the frame opens it

live-less : (a b c d e f x y : Bool) → (a && b && not (x || c) && not d && not (e && (y || f))) ≡ true → (a && b && not c && not d && not (e && f)) ≡ true
live-less false b c d e f x y h = h
live-less true false c d e f x y h = h
live-less true true c d e f true y h = absurd (true≢false (sym h))
live-less true true true d e f false y h = h
live-less true true false true e f false y h = h
live-less true true false false false f false y h = refl
live-less true true false false true f false true h = absurd (true≢false (sym h))
live-less true true false false true f false false h = h

lived-out : (r : Record) (frame : Frame) (id : ℕ) → is_live (Out frame ∷ r) id ≡ true → is_live r id ≡ true
unfolding is_live_with
lived-out r frame id live =
    let made = reset_behind (resets_of r) r frame in
    live-less (any_in (opens id) r) (not (0 == id)) (is_reset (resets_of r) id) (any_in (cancels id) r) (any_in (ends id) r) (any_out (finishes id) r) (is_of made id) (finishes id frame)
    (sym (λ i. any_in (opens id) r && not (0 == id) && not (is_reset-with made (resets_of r) id i) && not (any_in (cancels id) r)
    && not (any_in (ends id) r && (finishes id frame || any_out (finishes id) r))) ∙ live)

lived-in : (r : Record) (frame : Frame) (id : ℕ) → opens id frame ≡ false → is_live (In frame ∷ r) id ≡ true → is_live r id ≡ true
lived-in r frame id unopened live = by-test (is_live r id)
    (λ lived. lived)
    (λ shut. absurd (true≢false (sym live ∙ still-shut r frame id (reset_by (resets_of r) r frame) refl unopened shut)))

-- ---- a frame that breaks no rule

early-none : (r : Record) (frame : Frame) → fault_by r frame ≡ None → early_fault (has_begun r) (open_of r) (last_of r) frame ≡ None
early-none r frame none = first-of (early_fault (has_begun r) (open_of r) (last_of r) frame) (late_fault r frame) (sym (fault-split r frame) ∙ none)

body-old : (r : Record) (stream : ℕ) (end : Bool) (bytes : List ℕ) (counted : ℕ) → fault_by r (frames.Body stream end bytes counted) ≡ None → is_idle_above (last_of r) stream ≡ false
body-old r stream end bytes counted none = body-begun (has_begun r) (open_of r) (last_of r) stream end bytes counted (early-none r (frames.Body stream end bytes counted) none)

-- no payload came on an id above the last
pub payload-none : (r : Record) (id : ℕ) → first_fault_of r ≡ None → last_of r < id → sum_in (with_payload id) 0 r ≡ 0
payload-none [] id sound above = refl
payload-none (In (frames.Body stream end bytes counted) ∷ r) id sound above =
    let frame = frames.Body stream end bytes counted in
    let old = body-old r stream end bytes counted (second-of (first_fault_of r) (fault_by r frame) sound) in
    let within : stream ≤ last_of r = lt-false (last_of r) stream (or-second (stream % 2 == 0) (nat_lt (last_of r) stream) old) in
    let sum = sum_in (with_payload id) 0 r in
    (λ i. if apart-above id stream (omega (arith, within, above)) i then sum + counted else sum) ∙ payload-none r id (first-of (first_fault_of r) (fault_by r frame) sound) above
payload-none (In (frames.Headers stream end whole fragment) ∷ r) id sound above =
    let frame = frames.Headers stream end whole fragment in
    let rises = later-by (nat_lt (last_of r) stream) (last_of r) stream refl in
    payload-none r id (first-of (first_fault_of r) (fault_by r frame) sound) (omega (arith, rises, above))
payload-none (In frame ∷ r) id sound above = payload-none r id (first-of (first_fault_of r) (fault_by r frame) sound) above
payload-none (Out frame ∷ r) id sound above = payload-none r id sound above
payload-none (Given stream part ∷ r) id sound above = payload-none r id sound above
payload-none (Whole ∷ r) id sound above = payload-none r id sound above
payload-none (Broken fault ∷ r) id sound above = payload-none r id (first-of (first_fault_of r) (Some fault) sound) above

-- ---- DATA on a stream that stays live are within its window

module _ (r : Record) (stream : ℕ) (end : Bool) (bytes : List ℕ) (counted : ℕ) where
  abbrev came : Frame
  came = frames.Body stream end bytes counted

  window-by : (over : Bool) → int_lt (receive_window_of r stream) (pos counted) ≡ over → reset_by (resets_of r) r came ≡ (if over then first_reset stream 3 else None)
      → is_live (In came ∷ r) stream ≡ true → pos counted ≤ℤ receive_window_of r stream
  window-by true e made live = absurd (true≢false (sym live ∙ reset-shut r came stream 3 true made))
  window-by false e made live = omega (arith, ints, e)

  body-by : (state : StreamState) → state_of r stream ≡ state → is_idle_above (last_of r) stream ≡ false → is_live r stream ≡ true → is_live (In came ∷ r) stream ≡ true
      → pos counted ≤ℤ receive_window_of r stream
  body-by is.Idle state old lived live = absurd (true≢false (sym (state-idle r stream state) ∙ old))
  body-by is.Live state old lived live =
      window-by (int_lt (receive_window_of r stream) (pos counted)) refl (made-body r stream counted end bytes ∙ ap (body_refusal (receive_window_of r stream) stream counted) state) live
  body-by is.Ended state old lived live =
      absurd (true≢false (sym live ∙ reset-shut r came stream 5 true (made-body r stream counted end bytes ∙ ap (body_refusal (receive_window_of r stream) stream counted) state)))
  body-by (is.Closed was) state old lived live = absurd (true≢false (sym lived ∙ (state-closed r stream was state).0))

  body-fits : fault_by r came ≡ None → is_live (In came ∷ r) stream ≡ true → pos counted ≤ℤ receive_window_of r stream
  body-fits none live = body-by (state_of r stream) refl (body-old r stream end bytes counted none) (lived-in r came stream refl live) live

-- ---- HEADERS on a stream that lives now and didn't are the first on it

module _ (r : Record) (stream : ℕ) (end whole : Bool) (fragment : List ℕ) where
  abbrev opening : Frame
  opening = frames.Headers stream end whole fragment

  begun-by : (state : StreamState) → state_of r stream ≡ state → (stream % 2 == 0) ≡ false → is_live r stream ≡ false → is_live (In opening ∷ r) stream ≡ true → last_of r < stream
  begun-by is.Idle state odd shut live = risen-of r stream state odd
  begun-by is.Live state odd shut live = absurd (true≢false (sym (state-live r stream state).0 ∙ shut))
  begun-by is.Ended state odd shut live = absurd (true≢false (sym (state-ended r stream state).0 ∙ shut))
  begun-by (is.Closed false) state odd shut live = absurd (true≢false (sym live ∙ reset-shut r opening stream 5 false (made-headers r stream end whole fragment (is.Closed false) state)))
  begun-by (is.Closed true) state odd shut live =
      let was = remembered-reset (resets_of r) stream (state-closed r stream true state).2 in
      let made = made-headers r stream end whole fragment (is.Closed true) state in
      absurd (true≢false (sym was ∙ sym (λ i. is_reset (with_reset (resets_of r) (made i)) stream) ∙ live-unreset (resets_of (In opening ∷ r)) (In opening ∷ r) stream live))

  headers-first : fault_by r opening ≡ None → is_live r stream ≡ false → is_live (In opening ∷ r) stream ≡ true → last_of r < stream
  headers-first none shut live =
      begun-by (state_of r stream) refl (not-even (has_begun r) (open_of r) (last_of r) stream end whole fragment (early-none r opening none)) shut live

-- ---- a live stream's payload is within what it was allowed

most-by : (b : Bool) (sum more out : ℕ) → (b ≡ true → sum + more ≤ out) → (b ≡ false → sum ≤ out) → (if b then sum + more else sum) ≤ out
most-by true sum more out here away = here refl
most-by false sum more out here away = away refl

allowed-more : (id : ℕ) (frame : Frame) (sum : ℕ) → sum ≤ with_increment id frame sum
allowed-more id (frames.Window stream add) sum = by (id == stream)
  where
    by : (b : Bool) → sum ≤ (if b then sum + add else sum)
    by true = omega arith
    by false = omega arith
allowed-more id frame sum = omega arith

within-body : (r : Record) (id stream : ℕ) (end : Bool) (bytes : List ℕ) (counted : ℕ) → fault_by r (frames.Body stream end bytes counted) ≡ None
    → (is_live r id ≡ true → sum_in (with_payload id) 0 r ≤ sum_out (with_increment id) first_window r)
    → is_live (In (frames.Body stream end bytes counted) ∷ r) id ≡ true → sum_in (with_payload id) 0 (In (frames.Body stream end bytes counted) ∷ r) ≤ sum_out (with_increment id) first_window r
within-body r id stream end bytes counted none before live =
    let sum = sum_in (with_payload id) 0 r in
    let out = sum_out (with_increment id) first_window r in
    most-by (id == stream) sum counted out
    (λ same.
    let at = same-eq id stream same in
    let fits : pos counted ≤ℤ receive_window_of r id = subst (λ (n : ℕ). pos counted ≤ℤ receive_window_of r n) (sym at)
    (body-fits r stream end bytes counted none (subst (λ (n : ℕ). is_live (In (frames.Body stream end bytes counted) ∷ r) n ≡ true) at live)) in
    omega (arith, ints, fits))
    (λ apart. before (lived-in r (frames.Body stream end bytes counted) id refl live))

within-headers : (r : Record) (id stream : ℕ) (end whole : Bool) (fragment : List ℕ) → first_fault_of r ≡ None → fault_by r (frames.Headers stream end whole fragment) ≡ None
    → (is_live r id ≡ true → sum_in (with_payload id) 0 r ≤ sum_out (with_increment id) first_window r)
    → is_live (In (frames.Headers stream end whole fragment) ∷ r) id ≡ true → sum_in (with_payload id) 0 r ≤ sum_out (with_increment id) first_window r
within-headers r id stream end whole fragment sound none before live = by-test (is_live r id) before
    (λ shut. by-test (id == stream)
    (λ same.
    let at = same-eq id stream same in
    let first = headers-first r stream end whole fragment none (subst (λ (n : ℕ). is_live r n ≡ false) at shut)
    (subst (λ (n : ℕ). is_live (In (frames.Headers stream end whole fragment) ∷ r) n ≡ true) at live) in
    omega (arith, payload-none r id sound (omega (arith, at, first))))
    (λ apart. before (lived-in r (frames.Headers stream end whole fragment) id apart live)))

pub within-window : (r : Record) (id : ℕ) → first_fault_of r ≡ None → is_live r id ≡ true → sum_in (with_payload id) 0 r ≤ sum_out (with_increment id) first_window r
unfolding is_live_with
within-window [] id sound live = absurd (true≢false (sym live))
within-window (In (frames.Body stream end bytes counted) ∷ r) id sound live =
    let frame = frames.Body stream end bytes counted in
    within-body r id stream end bytes counted (second-of (first_fault_of r) (fault_by r frame) sound) (within-window r id (first-of (first_fault_of r) (fault_by r frame) sound)) live
within-window (In (frames.Headers stream end whole fragment) ∷ r) id sound live =
    let frame = frames.Headers stream end whole fragment in
    let before = first-of (first_fault_of r) (fault_by r frame) sound in
    within-headers r id stream end whole fragment before (second-of (first_fault_of r) (fault_by r frame) sound) (within-window r id before) live
within-window (In frame ∷ r) id sound live = within-window r id (first-of (first_fault_of r) (fault_by r frame) sound) (lived-in r frame id refl live)
within-window (Out frame ∷ r) id sound live = omega (arith, within-window r id sound (lived-out r frame id live), allowed-more id frame (sum_out (with_increment id) first_window r))
within-window (Given stream part ∷ r) id sound live = within-window r id sound live
within-window (Whole ∷ r) id sound live = within-window r id sound live
within-window (Broken fault ∷ r) id sound live = within-window r id (first-of (first_fault_of r) (Some fault) sound) live

-- ---- so the credit that waits, is kept or is owed fits the windows

positive : (r : Record) (id : ℕ) → is_live r id ≡ true → 0 < id
positive r zero live = absurd (true≢false (sym live ∙ live-zero r))
positive r (suc n) live = omega arith

found-by : (live : Bool) (entry stream : Stream) → (if live then Some entry else None) ≡ Some stream → (live ≡ true) × (stream.receive ≡ entry.receive)
found-by true entry stream e = (refl, cc)
found-by false entry stream e = absurd (cc)

-- what went and what waits
total-both : (id : ℕ) (written due : List Frame) (waiting : List Control) → written ++ map frame_of waiting ≡ due → total id written + total id (map frame_of waiting) ≡ total id due
total-both id written due waiting same = sym (total-append id written (map frame_of waiting)) ∙ ap (total id) same

total-first : (stream add : ℕ) (waiting rest : List Control) → waiting ≡ control.Credit stream add ∷ rest → total stream (map frame_of waiting) ≡ total stream (map frame_of rest) + add
total-first stream add waiting rest first =
    let more = total stream (map frame_of rest) in
    ap (λ (waiting : List Control). total stream (map frame_of waiting)) first ∙ (λ i. if same-self stream i then more + add else more)

-- the credit that is the next to go
pub credit-fits : (c : Held) (r : Record) (stream add : ℕ) (rest : List Control) (s : Stream) → Settled c r → c.control ≡ control.Credit stream add ∷ rest → find c.streams stream ≡ Some s
    → (s.receive +ℤ pos add) ≤ℤ greatest
credit-fits c r stream add rest s stands first found =
    let here = found-by (is_live r stream) (entry_of r stream) s (sym (stands.streams.found stream) ∙ found) in
    let receive : s.receive ≡ receive_window_of r stream = here.1 in
    let both = total-both stream (written_control_of r) (settled_control r) c.control stands.controls in
    omega (
      arith,
      ints,
      receive,
      both,
      total-first stream add c.control rest first,
      total-allowed r stream first_window,
      settled-ledger r stream (positive r stream here.0) stands.sound,
    )

-- the credit of the latest frame, beside what is kept
owed-all : (owed : Option OwedCredit) (one : OwedCredit) → owed ≡ Some one → owed_on owed one.stream ≡ one.bytes
owed-all owed one same = ap (λ (owed : Option OwedCredit). owed_on owed one.stream) same ∙ (λ i. if same-self one.stream i then one.bytes else 0)

pub kept-fits : (c : Held) (r : Record) (owed : OwedCredit) → OpenStands c r → c.owed ≡ Some owed → kept_on c.kept owed.stream + owed.bytes ≤ 2 ^ 31 - 1
kept-fits c r owed stands same =
    let id = owed.stream in
    let owing = sym stands.owing ∙ same in
    let live = and-first (is_live r id) (not (any_in (ends id) r)) (owed-open r owed owing) in
    let both = total-both id (written_control_of r) (control_of r) c.control stands.controls in
    omega (
      arith,
      both,
      stands.keeping id,
      owed-all (owed_of r) owed owing,
      total-allowed r id first_window,
      within-window r id stands.sound live,
      ledger r id (positive r id live) stands.sound,
    )
