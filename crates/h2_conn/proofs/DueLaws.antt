-- What a connection writes next is due.
use Rattle.std.proofs.Common.{◌≡◌, ℕ, ◌==◌, Bool, true, false, not, List, [], ◌∷◌, ◌++◌, map, length, Option, None, Some, IsSome, pos, refl, sym, ap, subst, ◌∙◌, arith, append_assoc, true≢false, if◌then◌else◌}
use Rattle.std.specs.Prelude.{option_to_list, option_map, unwrap_or, ◌≤ℤ◌}
use Rattle.std.proofs.lemmas.List.{append_cancel_left}
use Rattle.h2_frames.specs.declared.frame.Frame.{Frame}
use Rattle.h2_frames.specs.declared.frame.Frame.TheVariants as frames
use Rattle.h2_frames.specs.declared.fault.H2Fault.{H2Fault}
use Rattle.h2_streams.specs.declared.stream.Stream.{Stream}
use Rattle.h2_streams.specs.Book.{find}
use Rattle.h2_answers.specs.declared.part.Part.{Part}
use Rattle.h2_answers.specs.declared.part.Part.TheVariants as part
use Rattle.h2_answers.specs.declared.part.Due.{Due}
use Rattle.h2_answers.specs.Waiting.{Waiting, nothing, data_of, waiting_on}
use Rattle.h2_answers.specs.Due.{IsNext, IsFree, head_block, frame_of as frame_of_part}
use Rattle.h2_record.specs.declared.control.Control.{Control}
use Rattle.h2_record.specs.declared.control.Control.TheVariants as control
use Rattle.h2_conn.specs.declared.next.Next.TheVariants as next
use Rattle.h2_record.specs.Record.{Record}
use Rattle.h2_record.specs.Live.{entry_of}
use Rattle.h2_record.specs.Resets.{is_live}
use Rattle.h2_record.specs.Control.{frame_of, control_of, due_after, written_control_of}
use Rattle.h2_conn.specs.Latest.{latest_credit}
use Rattle.h2_record.specs.Texts.{Token, Fields, Octet, Aborted}
use Rattle.h2_record.specs.Due.{settled_control_of, IsNextControl, WaitsControl, IsStarted, IsDue}
use Rattle.h2_conn.specs.Held.{Held}
use Rattle.h2_conn.specs.Stands.{OpenStands, FaultStands}
use Rattle.h2_conn.specs.Waits.{head_text, tail_text, WaitsLive}
use Rattle.h2_conn.specs.Parts.{part_frame}
use Rattle.h2_conn.specs.Producing.{waiting_control, first_of, is_credit_on, send_on, is_held_by, bounds_in, IsNextIn}
use Rattle.h2_record.proofs.BoolLemmas.{or-first, or-second, same-self}
use Rattle.h2_conn.proofs.CloseLemmas.{found-some}
use Rattle.h2_record.proofs.SettingsLaws.{first_frame, settings-went}
use Rattle.h2_conn.proofs.WaitingLemmas.{settled-waiting}
use Rattle.h2_conn.proofs.DueTexts.{lives-by, headers-due, data-due, reset-by, tail-some}

-- ---- control frames

next-control : (r : Record) (x : Control) → IsNextControl r (frame_of x) → IsDue r (frame_of x)
next-control r control.Settings next = next
next-control r control.SettingsAck next = next
next-control r (control.Pong octets) next = next
next-control r (control.Goaway last code) next = next
next-control r (control.Credit stream add) next = next

first-due : (r : Record) (x : Control) (waiting : List Control) → written_control_of r ++ map frame_of waiting ≡ settled_control_of r → first_of waiting ≡ Some x → IsDue r (frame_of x)
first-due r x [] same first = absurd (cc)
first-due r x (y ∷ behind) same first =
    let is : x ≡ y = cc in
    next-control r x (record {
      behind = map frame_of behind;
      next = ap (λ (z : Control). written_control_of r ++ frame_of z ∷ map frame_of behind) is ∙ same;
    })

-- the first of those that wait
pub control-due : (c : Held) (r : Record) (x : Control) → OpenStands c r → first_of (waiting_control c) ≡ Some x → IsDue r (frame_of x)
control-due c r x s first = first-due r x (waiting_control c) (settled-waiting c r s) first

-- the same behind a connection error
pub last-due : (c : Held) (r : Record) (fault : H2Fault) (x : Control) (rest : List Control) → FaultStands c fault r → c.control ≡ x ∷ rest → IsDue r (frame_of x)
last-due c r fault x rest s first = next-control r x (record {
  behind = map frame_of rest;
  next =
      ap (λ waiting. written_control_of r ++ map frame_of waiting) (sym first) ∙ s.control
      ∙ sym (ap (λ earlier. due_after (control_of r) [] r earlier None) s.met);
})

-- ---- what else goes, behind SETTINGS

settings-only : (x : Control) → frame_of x ≡ frame_of control.Settings → x ≡ control.Settings
settings-only control.Settings e = refl
settings-only control.SettingsAck e = absurd (cc)
settings-only (control.Pong octets) e = absurd (cc)
settings-only (control.Goaway last code) e = absurd (cc)
settings-only (control.Credit stream add) e = absurd (cc)

settings-apart : (waiting more : List Control) → (first_of (waiting ++ more) ≡ Some control.Settings → ⊥) → (behind : List Frame) → map frame_of waiting ≡ first_frame ∷ behind → ⊥
unfolding first_frame
settings-apart [] more apart behind e = absurd (cc)
settings-apart (x ∷ waiting) more apart behind e =
    let same : frame_of x ≡ frame_of control.Settings = cc in
    apart (ap Some (settings-only x same))

pub is-started : (c : Held) (r : Record) → OpenStands c r → (first_of (waiting_control c) ≡ Some control.Settings → ⊥) → IsStarted r
is-started c r s apart = record {
  sound = s.sound;
  started = settings-went r (map frame_of c.control) s.controls (settings-apart c.control (option_to_list (latest_credit c)) apart);
}

-- ---- no WINDOW_UPDATE of the stream waits

credit-only : (x : Control) (id add : ℕ) → frames.Window id add ≡ frame_of x → is_credit_on id x ≡ true
credit-only control.Settings id add e = absurd (cc)
credit-only control.SettingsAck id add e = absurd (cc)
credit-only (control.Pong octets) id add e = absurd (cc)
credit-only (control.Goaway last code) id add e = absurd (cc)
credit-only (control.Credit stream more) id add e = let same : stream ≡ id = cc in ap (λ s. id == s) same ∙ same-self id

unheld : (waiting : List Control) (id add : ℕ) (before behind : List Frame) → is_held_by waiting id ≡ false → before ++ frames.Window id add ∷ behind ≡ map frame_of waiting → ⊥
unheld [] id add [] behind none e = absurd (cc)
unheld [] id add (frame ∷ before) behind none e = absurd (cc)
unheld (x ∷ waiting) id add [] behind none e =
    let same : frames.Window id add ≡ frame_of x = cc in
    true≢false (sym (credit-only x id add same) ∙ or-first (is_credit_on id x) (is_held_by waiting id) none)
unheld (x ∷ waiting) id add (frame ∷ before) behind none e =
    let rest : before ++ frames.Window id add ∷ behind ≡ map frame_of waiting = cc in
    unheld waiting id add before behind (or-second (is_credit_on id x) (is_held_by waiting id) none) rest

pub none-waits : (c : Held) (r : Record) (id : ℕ) → OpenStands c r → is_held_by (waiting_control c) id ≡ false → WaitsControl r id → ⊥
none-waits c r id s none w =
    unheld (waiting_control c) id w.add w.before w.behind none
    (append_cancel_left (written_control_of r) (w.before ++ frames.Window id w.add ∷ w.behind) (map frame_of (waiting_control c))
    (sym (append_assoc (written_control_of r) w.before (frames.Window id w.add ∷ w.behind)) ∙ w.waits ∙ sym (settled-waiting c r s)))

-- ---- the part that goes next

-- the window of a live stream
window-of : (entry : Stream) (live : Bool) (found : Option Stream) → live ≡ true → found ≡ (if live then Some entry else None) → unwrap_or (option_map (λ stream. stream.send) found) (pos 0) ≡ entry.send
window-of entry live found lives is = ap (λ (f : Option Stream). unwrap_or (option_map (λ stream. stream.send) f) (pos 0)) (is ∙ found-some live entry lives)

module _ (c : Held) (r : Record) (s : OpenStands c r) (started : IsStarted r) (id : ℕ) where
  waits-here : (waiting_on c.answers id ≡ record nothing { resets = (waiting_on c.answers id).resets } → ⊥) → (is_live r id ≡ true) × WaitsLive r id (waiting_on c.answers id)
  waits-here some = lives-by r id (waiting_on c.answers id) (is_live r id) refl (s.streams.waits id) some

  head-due : (end : Bool) → IsNext (waiting_on c.answers id) (part.Head end) → IsDue r (frame_of_part (not c.has_headed) id (waiting_on c.answers id) (part.Head end))
  head-due end ahead =
      let waiting : Waiting = waiting_on c.answers id in
      let behind : List Token = map Octet (data_of waiting) ++ tail_text waiting.tail ++ map Aborted waiting.resets in
      let here = waits-here (λ shut. let none : (waiting_on c.answers id).head ≡ None = ap (λ (w : Waiting). w.head) shut in let some = ahead.1 in absurd (cc)) in
      headers-due r id waiting started here.0 here.1 end c.has_headed (head_block waiting.head) behind s.headed
      (ap (λ front. head_text front ++ map Octet (data_of waiting) ++ tail_text waiting.tail ++ map Aborted waiting.resets) ahead.1
      ∙ (λ i. Fields (sym ahead.2 i) (head_block (sym ahead.1 i)) ∷ behind))

  tail-due : IsNext (waiting_on c.answers id) part.Tail → IsDue r (frame_of_part (not c.has_headed) id (waiting_on c.answers id) part.Tail)
  tail-due ahead =
      let waiting : Waiting = waiting_on c.answers id in
      let here = waits-here (λ shut. let some : IsSome {T = List ℕ} None = subst IsSome (ap (λ (w : Waiting). w.tail) shut) ahead.2 in absurd (true≢false (sym some))) in
      headers-due r id waiting started here.0 here.1 true c.has_headed (unwrap_or waiting.tail []) (map Aborted waiting.resets) s.headed
      (λ i. head_text (ahead.0 i) ++ map Octet (ahead.1 i) ++ tail-some waiting.tail ahead.2 i ++ map Aborted waiting.resets)

  body-due : (len : ℕ) → IsNext (waiting_on c.answers id) (part.Body len) → (pos len ≤ℤ send_on c.streams id) → (pos len ≤ℤ c.window)
      → IsDue r (frame_of_part (not c.has_headed) id (waiting_on c.answers id) (part.Body len))
  body-due len ahead stream connection =
      let waiting : Waiting = waiting_on c.answers id in
      let here = waits-here (λ shut. let none : data_of (waiting_on c.answers id) ≡ [] = ap (λ (w : Waiting). data_of w) shut in absurd (omega (arith, ahead.1, ahead.3, ap length none))) in
      data-due r id waiting started here.0 here.1 len ahead.0 ahead.1 ahead.2 ahead.3
      (subst (λ window. pos len ≤ℤ window) (window-of (entry_of r id) (is_live r id) (find c.streams id) here.0 (s.streams.found id)) stream)
      (subst (λ window. pos len ≤ℤ window) s.window connection)

  reset-due : (code : ℕ) → IsNext (waiting_on c.answers id) (part.Reset code) → is_held_by (waiting_control c) id ≡ false
      → IsDue r (frame_of_part (not c.has_headed) id (waiting_on c.answers id) (part.Reset code))
  reset-due code ahead none = record {
    next = reset-by r id code (waiting_on c.answers id) (is_live r id) started refl (s.streams.waits id) ahead;
    free = none-waits c r id s none;
  }

  due-by : (room : ℕ) (p : Part) → IsNext (waiting_on c.answers id) p → IsFree (bounds_in c room) id p → IsDue r (frame_of_part (not c.has_headed) id (waiting_on c.answers id) p)
  due-by room (part.Head end) ahead free = head-due end ahead
  due-by room (part.Body len) ahead free = body-due len ahead free.0 free.1
  due-by room part.Tail ahead free = tail-due ahead
  due-by room (part.Reset code) ahead free = reset-due code ahead free

-- a part of an answer
pub part-due : (c : Held) (r : Record) (room : ℕ) (due : Due) → OpenStands c r → IsNextIn c room (next.Part due) → IsDue r (part_frame c due)
part-due c r room due s goes = due-by c r s (is-started c r s goes.0) due.stream room due.part goes.1.due.0 goes.1.due.1
