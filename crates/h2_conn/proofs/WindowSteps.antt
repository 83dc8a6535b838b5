-- What WINDOW_UPDATE leaves of a connection.
use Rattle.std.proofs.Common.{◌≡◌, ℕ, ◌+◌, ◌≤◌, ◌==◌, Bool, true, false, not, ◌&&◌, [], ◌∷◌, Option, None, Some, Result, IfSome, ℤ, pos, ◌+ℤ◌, ◌-ℤ◌, ◌≤ℤ◌, ◌<ℤ◌, int_lt, refl, sym, ap, subst, ◌∙◌, arith, append-nil, if◌then◌else◌}
use Rattle.std.specs.Option.{option_or}
use Rattle.std.proofs.lemmas.Int.{ints}
use Rattle.h2_frames.specs.declared.frame.Frame.TheVariants as frames
use Rattle.h2_flow.specs.Range.{greatest}
use Rattle.h2_flow.specs.declared.window.Overflow.{Overflow}
use Rattle.h2_streams.specs.declared.stream.Stream.{Stream}
use Rattle.h2_streams.specs.Book.{Book, find, with_stream}
use Rattle.h2_streams.specs.Calls.{Grants}
use Rattle.h2_record.specs.declared.event.Event.TheVariants as event
use Rattle.h2_record.specs.Record.{Record, In, any_in, any_out, sum_in, sum_out}
use Rattle.h2_record.specs.Windows.{initial_of, connection_window_of, send_window_of, with_increment, data_out, with_any_data}
use Rattle.h2_record.specs.Ids.{last_of}
use Rattle.h2_record.specs.Live.{Reset, opens, ends, finishes, cancels, is_reset, is_live_with, is_idle_above, entry_of}
use Rattle.h2_record.specs.Resets.{reset_by, with_reset, resets_of, is_live}
use Rattle.h2_record.specs.Refusals.{grant_refusal, first_reset}
use Rattle.h2_record.specs.Faults.{fault_by}
use Rattle.h2_record.specs.Rules.{broken, code_if}
use Rattle.h2_record.specs.Events.{event_by}
use Rattle.h2_answers.specs.Replies.{drop_bytes}
use Rattle.h2_record.specs.Replies.{replies_of}
use Rattle.h2_conn.specs.KeptCredit.{KeptOnly}
use Rattle.h2_conn.specs.Held.{Held}
use Rattle.h2_conn.specs.Taking.{Settled, early_of, Fails, Takes, Refuses}
use Rattle.h2_record.specs.Early.{late_fault}
use Rattle.h2_record.proofs.BoolLemmas.{and-false, same-self, by-test}
use Rattle.h2_record.proofs.OptionLemmas.{or-nothing}
use Rattle.h2_record.proofs.FaultLemmas.{window-begun}
use Rattle.h2_conn.proofs.SettledFaults.{breaks-late}
use Rattle.h2_record.proofs.ApartLemmas.{IsOf}
use Rattle.h2_conn.proofs.CloseLemmas.{OnLive, touch-keep, found-some}
use Rattle.h2_conn.proofs.ShutLemmas.{OnShut, touch-shut}
use Rattle.h2_conn.proofs.ResetLemmas.{still-shut, kept-shut, touch-reset, reset-shut, waits-live}
use Rattle.h2_conn.proofs.StreamSteps.{touch-stands, kept-same, open-shut, begun-within, waits-shut}

-- the connection is no stream
pub live-zero : (r : Record) → is_live r 0 ≡ false
unfolding is_live_with
live-zero r =
    let resets = resets_of r in
    let c = not (is_reset resets 0) in
    let d = not (any_in (cancels 0) r) in
    let e = not (any_in (ends 0) r && any_out (finishes 0) r) in
    λ i. and-false (any_in (opens 0) r) i && c && d && e

-- a frame on a closed stream resets nothing
window-shut : (r : Record) (stream add : ℕ) → is_live r stream ≡ false → reset_by (resets_of r) r (frames.Window stream add) ≡ None
unfolding reset_by
window-shut r stream add shut = λ i. option_or (if shut i then grant_refusal (send_window_of r stream) stream add else None) None

pub takes-window-shut : (c : Held) (r : Record) (stream add : ℕ) (window : ℤ) → Settled c r → fault_by r (frames.Window stream add) ≡ None → is_live r stream ≡ false → stream ≤ last_of r
    → window ≡ connection_window_of (In (frames.Window stream add) ∷ r) → Takes r (frames.Window stream add) None (record c { has_begun = true; window = window })
takes-window-shut c r stream add window s none shut within same =
    let frame = frames.Window stream add in
    let made = window-shut r stream add shut in
    let still = still-shut r frame stream None made refl shut in
    let o : OnShut r frame stream None = record { shut = shut; still = still; made = made; of = tt; on = λ other off. off; steady = refl; begun = refl; last = refl; within = within } in
    record {
      breaks = none;
      tells = ap (event_by r frame) made;
      stands = touch-stands c (record c { has_begun = true; window = window }) r frame stream None [] s none
          (touch-shut c.streams c.streams c.answers c.answers r frame stream None s.streams o refl refl s.streams.remembered
          (waits-shut c.streams c.answers r frame stream s.streams shut still made) (λ other differ. refl))
          refl same refl s.block s.table (sym (append-nil c.control)) refl s.owing (kept-same r frame stream c.kept s.keeping (open-shut r frame stream shut still)) s.flood refl;
    }

pub lt-yes-int : (a b : ℤ) → a <ℤ b → int_lt a b ≡ true
lt-yes-int a b h = by-test (int_lt a b) (λ yes_case. yes_case) (λ no_case. absurd (omega (arith, ints, no_case, h)))

pub lt-no-int : (a b : ℤ) → b ≤ℤ a → int_lt a b ≡ false
lt-no-int a b h = by-test (int_lt a b) (λ yes_case. absurd (omega (arith, ints, yes_case, h))) (λ no_case. no_case)

-- WINDOW_UPDATE on the connection
connection-late : (r : Record) (add : ℕ) (over : Bool) → int_lt greatest (connection_window_of r +ℤ pos add) ≡ over
    → late_fault r (frames.Window 0 add) ≡ option_or (broken 14 (code_if over 3)) None
unfolding late_fault
connection-late r add over test = ap (λ over. option_or (broken 14 (code_if over 3)) None) test

pub takes-connection : (c : Held) (r : Record) (add : ℕ) (window : ℤ) → Settled c r → early_of c (frames.Window 0 add) ≡ None
    → (c.window +ℤ pos add) ≤ℤ greatest → window ≡ c.window +ℤ pos add → Takes r (frames.Window 0 add) None (record c { has_begun = true; window = window })
takes-connection c r add window s early within sum =
    let sum_in_range : (connection_window_of r +ℤ pos add) ≤ℤ greatest = subst (λ (w : ℤ). (w +ℤ pos add) ≤ℤ greatest) s.window within in
    let none = breaks-late c r (frames.Window 0 add) s early ∙ connection-late r add false (lt-no-int greatest (connection_window_of r +ℤ pos add) sum_in_range) in
    takes-window-shut c r 0 add window s none (live-zero r) (omega arith) (sum ∙ ap (λ w. w +ℤ pos add) s.window ∙ omega (arith, ints))

pub fails-connection : (c : Held) (r : Record) (add : ℕ) (window : ℤ) → Settled c r → early_of c (frames.Window 0 add) ≡ None
    → greatest <ℤ (c.window +ℤ pos add) → Fails r (frames.Window 0 add) (record { code = 3; rule = 14 }) (record c { has_begun = true; window = window })
fails-connection c r add window s early over =
    let passes : greatest <ℤ (connection_window_of r +ℤ pos add) = subst (λ (w : ℤ). greatest <ℤ (w +ℤ pos add)) s.window over in
    record {
      breaks = breaks-late c r (frames.Window 0 add) s early ∙ connection-late r add true (lt-yes-int greatest (connection_window_of r +ℤ pos add) passes);
      controls = s.controls;
      last = s.streams.last;
      headed = s.headed;
    }

-- WINDOW_UPDATE on a stream
stream-late : (r : Record) (stream add : ℕ) → (stream == 0) ≡ false → late_fault r (frames.Window stream add) ≡ None
unfolding late_fault
stream-late r stream add some = λ i. option_or (broken 14 (code_if (some i && int_lt greatest (connection_window_of r +ℤ pos add)) 3)) None

pub sound-window : (c : Held) (r : Record) (stream add : ℕ) → Settled c r → early_of c (frames.Window stream add) ≡ None → (stream == 0) ≡ false → fault_by r (frames.Window stream add) ≡ None
sound-window c r stream add s early some = breaks-late c r (frames.Window stream add) s early ∙ stream-late r stream add some

pub window-within : (c : Held) (r : Record) (stream add : ℕ) → Settled c r → early_of c (frames.Window stream add) ≡ None → (stream == 0) ≡ false → stream ≤ last_of r
window-within c r stream add s early some =
    begun-within c r stream s (sym (λ i. not (some i) && is_idle_above c.streams.last stream) ∙ window-begun c.has_begun c.block c.streams.last stream add early)

-- it isn't the connection's window that changes
pub same-connection : (r : Record) (stream add : ℕ) → (0 == stream) ≡ false → connection_window_of (In (frames.Window stream add) ∷ r) ≡ connection_window_of r
same-connection r stream add some = λ i. pos (if some i then sum_in (with_increment 0) 65535 r + add else sum_in (with_increment 0) 65535 r) -ℤ pos (sum_out with_any_data 0 r)

-- on a live stream
window-live : (r : Record) (stream add : ℕ) (x : Option Reset) → is_live r stream ≡ true → grant_refusal (send_window_of r stream) stream add ≡ x → reset_by (resets_of r) r (frames.Window stream add) ≡ x
unfolding reset_by
window-live r stream add x live refused = (λ i. option_or (if live i then refused i else None) None) ∙ or-nothing x

pub on-window : (r : Record) (stream add : ℕ) (x : Option Reset) → is_live r stream ≡ true → reset_by (resets_of r) r (frames.Window stream add) ≡ x → IsOf x stream → OnLive r (frames.Window stream add) stream x
on-window r stream add x live made of = record { live = live; made = made; of = of; on = λ other off. off; steady = refl; begun = refl; last = refl }

-- what a reset by the server leaves, where the frame causes nothing else
pub takes-window-reset : (c c' : Held) (r : Record) (stream add code : ℕ) → Settled c r → fault_by r (frames.Window stream add) ≡ None → (0 == stream) ≡ false
    → is_live r stream ≡ true → grant_refusal (send_window_of r stream) stream add ≡ first_reset stream code → Refuses (record c { has_begun = true }) stream code c'
    → Takes r (frames.Window stream add) (Some (event.Reset stream code)) c'
takes-window-reset c c' r stream add code s none some live refused refuses =
    let frame = frames.Window stream add in
    let reset : Reset = record { stream = stream; code = code; is_first = true } in
    let made = window-live r stream add (Some reset) live refused in
    let after : Held = record c { has_begun = true; streams = c'.streams; kept = c'.kept; answers = c'.answers } in
    subst (λ (h : Held). Takes r frame (Some (event.Reset stream code)) h) (sym refuses.rest) (record {
      breaks = none;
      tells = ap (event_by r frame) made ∙ (λ i. if live i && true then Some (event.Reset stream code) else None);
      stands = touch-stands c after r frame stream (Some reset) [] s none
          (touch-reset c.streams c'.streams c.answers c'.answers r frame stream s.streams code (on-window r stream add (Some reset) live made refl) refuses.streams refuses.answers)
          refl (s.window ∙ sym (same-connection r stream add some)) refl s.block s.table (sym (append-nil c.control)) refl s.owing
          (subst (λ (sum : ℕ). KeptOnly c.kept c'.kept stream sum) (sym (kept-shut r frame stream (reset-shut r frame stream code true made))) refuses.kept) s.flood refl;
    })

-- more may go
still-live : (r : Record) (stream add : ℕ) → reset_by (resets_of r) r (frames.Window stream add) ≡ None → is_live (In (frames.Window stream add) ∷ r) stream ≡ is_live r stream
unfolding is_live_with
still-live r stream add made = ap (λ x. is_live_with (with_reset (resets_of r) x) r stream) made

more-goes : (r : Record) (stream add : ℕ) → send_window_of (In (frames.Window stream add) ∷ r) stream ≡ send_window_of r stream +ℤ pos add
more-goes r stream add =
    let sum = sum_in (with_increment stream) (initial_of r) r in
    (λ i. pos (if same-self stream i then sum + add else sum) -ℤ pos (data_out r stream)) ∙ omega (arith, ints)

pub takes-grant : (c : Held) (r : Record) (stream add : ℕ) (streams : Book) → Settled c r → fault_by r (frames.Window stream add) ≡ None → (0 == stream) ≡ false
    → is_live r stream ≡ true → (add == 0) ≡ false → (send_window_of r stream +ℤ pos add) ≤ℤ greatest
    → streams ≡ with_stream c.streams stream (record (entry_of r stream) { send = send_window_of r stream +ℤ pos add })
    → Takes r (frames.Window stream add) None (record c { has_begun = true; streams = streams })
takes-grant c r stream add streams s none some live more within is =
    let frame = frames.Window stream add in
    let refused : grant_refusal (send_window_of r stream) stream add ≡ None =
    (λ i. if more i then first_reset stream 1 else if int_lt greatest (send_window_of r stream +ℤ pos add) then first_reset stream 3 else None)
    ∙ (λ i. if lt-no-int greatest (send_window_of r stream +ℤ pos add) within i then first_reset stream 3 else None) in
    let made = window-live r stream add None live refused in
    let kept = still-live r stream add made ∙ live in
    let waits = waits-live c.streams c.answers r stream s.streams live in
    record {
      breaks = none;
      tells = ap (event_by r frame) made;
      stands = touch-stands c (record c { has_begun = true; streams = streams }) r frame stream None [] s none
          (touch-keep c.streams streams c.answers c.answers r frame stream None s.streams (on-window r stream add None live made tt)
          (record (entry_of r stream) { send = send_window_of r stream +ℤ pos add }) kept (ap (λ (b : Book). b.live) is) (ap (λ (b : Book). b.last) is)
          (ap (λ (b : Book). b.resets) is ∙ s.streams.remembered)
          (λ i. record (entry_of r stream) { send = sym (more-goes r stream add) i })
          (record { unreset = waits.unreset; unfinished = waits.unfinished; text = waits.text; replies = waits.replies ∙ (λ i. if sym (still-live r stream add made) i then drop_bytes (data_out r stream) (replies_of r stream) else []) })
          (λ other differ. refl))
          refl (s.window ∙ sym (same-connection r stream add some)) refl s.block s.table (sym (append-nil c.control)) refl s.owing
          (kept-same r frame stream c.kept s.keeping (λ i. still-live r stream add made i && not (any_in (ends stream) r))) s.flood refl;
    }

-- what was said of the stream that was found
pub grants-of : (c : Held) (streams : Book) (r : Record) (stream add : ℕ) (result : Result (Unit {0}) Overflow) → Settled c r → is_live r stream ≡ true
    → IfSome (find c.streams stream) (Grants c.streams stream add result streams) → Grants c.streams stream add result streams (entry_of r stream)
grants-of c streams r stream add result s live grants =
    subst (λ (o : Option Stream). IfSome o (Grants c.streams stream add result streams)) (s.streams.found stream ∙ found-some (is_live r stream) (entry_of r stream) live) grants

-- an increment of 0, and one that makes the window pass the greatest
pub zero-refused : (r : Record) (stream add : ℕ) → add ≡ 0 → grant_refusal (send_window_of r stream) stream add ≡ first_reset stream 1
zero-refused r stream add zero = ap (grant_refusal (send_window_of r stream) stream) zero

pub over-refused : (r : Record) (stream add : ℕ) → (add == 0) ≡ false → greatest <ℤ (send_window_of r stream +ℤ pos add) → grant_refusal (send_window_of r stream) stream add ≡ first_reset stream 3
over-refused r stream add more over =
    (λ i. if more i then first_reset stream 1 else if int_lt greatest (send_window_of r stream +ℤ pos add) then first_reset stream 3 else None)
    ∙ (λ i. if lt-yes-int greatest (send_window_of r stream +ℤ pos add) over i then first_reset stream 3 else None)
