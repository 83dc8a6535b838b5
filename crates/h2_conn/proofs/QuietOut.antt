-- Where a connection has nothing to write, no frame is due that fits.
use Rattle.std.proofs.Common.{◌≡◌, ℕ, ◌+◌, ◌<◌, ◌≤◌, Bool, true, false, not, ◌&&◌, ◌||◌, ◌⊎◌, inl, inr, List, [], ◌∷◌, ◌++◌, map, length, take, drop, Option, None, Some, IsSome, refl, sym, ap, subst, ◌∙◌, arith, append_assoc, length-take, true≢false, if◌then◌else◌}
use Rattle.std.specs.Prelude.{option_to_list, option_map, unwrap_or, ℤ, pos, ◌≤ℤ◌}
use Rattle.std.proofs.lemmas.List.{append_cancel_left}
use Rattle.h2_frames.specs.declared.frame.Frame.{Frame}
use Rattle.h2_frames.specs.declared.frame.Frame.TheVariants as frames
use Rattle.h2_frames.specs.declared.fault.H2Fault.{H2Fault}
use Rattle.h2_frames.specs.Spelling.{frame_len}
use Rattle.h2_streams.specs.declared.stream.Stream.{Stream}
use Rattle.h2_answers.specs.declared.part.Part.TheVariants as part
use Rattle.h2_answers.specs.Waiting.{Waiting, data_of, waiting_on}
use Rattle.h2_answers.specs.declared.part.Part.{Part}
use Rattle.h2_answers.specs.declared.part.Due.{Due}
use Rattle.h2_answers.specs.Due.{block_of, head_block, IsNext, IsDue as IsDuePart, IsFull, IsNextDue}
use Rattle.h2_answers.proofs.DueLemmas.{frame_len-body}
use Rattle.h2_record.specs.declared.block.OwedCredit.{OwedCredit}
use Rattle.h2_record.specs.declared.control.Control.{Control}
use Rattle.h2_record.specs.declared.control.Control.TheVariants as control
use Rattle.h2_conn.specs.declared.next.Next.TheVariants as next
use Rattle.h2_record.specs.Record.{Record}
use Rattle.h2_record.specs.Windows.{send_window_of}
use Rattle.h2_record.specs.Live.{entry_of}
use Rattle.h2_record.specs.Resets.{is_live}
use Rattle.h2_record.specs.Faults.{first_fault_of}
use Rattle.h2_record.specs.Control.{frame_of, control_of, written_control_of, due_after}
use Rattle.h2_record.specs.Texts.{Fields, Octet, Aborted, has_headed, frame_text, written_text, written_codes}
use Rattle.h2_record.specs.Due.{settled_control_of, IsNextControl, WaitsControl, IsStarted, IsNextText, IsDueHeaders, IsDueData, IsLongest, IsNextCode, IsDueReset, IsDue}
use Rattle.h2_conn.specs.Latest.{is_free_on, credit_if, latest_credit}
use Rattle.h2_conn.specs.Held.{Held}
use Rattle.h2_conn.specs.Stands.{OpenStands, FaultStands}
use Rattle.h2_conn.specs.Waits.{waiting_text, WaitsLive, WaitsClosed, WaitsBy}
use Rattle.h2_conn.specs.Parts.{part_frame}
use Rattle.h2_conn.specs.Producing.{waiting_control, first_of, is_credit_on, send_on, is_held_by, bounds_in, IsTooLong, IsNextIn}
use Rattle.h2_record.proofs.BoolLemmas.{same-self, same-eq, by-test}
use Rattle.h2_conn.proofs.WaitingLemmas.{settled-waiting}
use Rattle.h2_record.proofs.SettingsLaws.{first_frame, settings-wait}
use Rattle.h2_conn.proofs.DueTexts.{block-octets}
use Rattle.h2_conn.proofs.QuietTexts.{octets-wait, FieldsWait, HeadWaits, TailWaits, fields-wait, CodeWaits, code-waits}

-- ---- control frames

-- the first that waits is too long, so that it isn't this one
first-long : (waiting : List Control) (room : ℕ) (frame : Frame) (behind : List Frame) → map frame_of waiting ≡ frame ∷ behind → IsTooLong (first_of waiting) room → frame_len frame ≤ room → ⊥
first-long [] room frame behind e long fits = cc
first-long (x ∷ waiting) room frame behind e long fits = let same : frame_of x ≡ frame = cc in omega (arith, long, fits, ap frame_len same)

-- the next control frame is the first that waits
quiet-control : (r : Record) (waiting : List Control) (room : ℕ) → written_control_of r ++ map frame_of waiting ≡ settled_control_of r → IsTooLong (first_of waiting) room
    → (frame : Frame) → IsNextControl r frame → frame_len frame ≤ room → ⊥
quiet-control r waiting room settled long frame next fits =
    first-long waiting room frame next.behind (append_cancel_left (written_control_of r) (map frame_of waiting) (frame ∷ next.behind) (settled ∙ sym next.next)) long fits

-- ---- after a connection error

quiet-fault : (r : Record) (fault : H2Fault) → first_fault_of r ≡ Some fault → IsStarted r → ⊥
quiet-fault r fault met started = let none : Some fault ≡ None = sym met ∙ started.sound in cc

reset-started : (r : Record) (id code : ℕ) → IsNextText r id (frames.Reset id code) ⊎ IsNextCode r id code → IsStarted r
reset-started r id code (inl text) = text.started
reset-started r id code (inr next) = next.started

settled-last : (r : Record) (fault : H2Fault) → first_fault_of r ≡ Some fault → settled_control_of r ≡ control_of r
settled-last r fault met = ap (λ earlier. due_after (control_of r) [] r earlier None) met

pub quiet-last : (c : Held) (r : Record) (fault : H2Fault) (room : ℕ) → FaultStands c fault r → IsTooLong (first_of c.control) room
    → (frame : Frame) → IsDue r frame → frame_len frame ≤ room → ⊥
quiet-last c r fault room s long (frames.Headers stream ended whole block) due fits = quiet-fault r fault s.met due.text.started
quiet-last c r fault room s long (frames.Body stream ended bytes counted) due fits = quiet-fault r fault s.met due.text.started
quiet-last c r fault room s long (frames.Reset stream code) due fits = quiet-fault r fault s.met (reset-started r stream code due.next)
quiet-last c r fault room s long frame due fits = quiet-control r c.control room (s.control ∙ sym (settled-last r fault s.met)) long frame due fits

-- ---- an open connection

-- the latest credit isn't SETTINGS
latest-other : (answers : List (ℕ × Waiting)) (owed : Option OwedCredit) → first_of (option_to_list (credit_if answers owed)) ≡ Some control.Settings → ⊥
latest-other answers None e = cc
latest-other answers (Some owed) e = by (is_free_on answers owed.stream) e
  where
    by : (b : Bool) → first_of (option_to_list (if b then Some (control.Credit owed.stream owed.bytes) else None)) ≡ Some control.Settings → ⊥
    by true e = cc
    by false e = cc

record BeginsThere (controls : List Control) : Type 0 where
  behind : List Control
  is : controls ≡ control.Settings ∷ behind

begins-there : (controls latest : List Control) → (first_of latest ≡ Some control.Settings → ⊥) → first_of (controls ++ latest) ≡ Some control.Settings → BeginsThere controls
begins-there [] latest other e = absurd (other e)
begins-there (x ∷ xs) latest other e = let same : x ≡ control.Settings = cc in record { behind = xs; is = ap (λ y. y ∷ xs) same }

-- where SETTINGS are the first that wait, nothing goes on a stream
quiet-settings : (c : Held) (r : Record) → OpenStands c r → first_of (waiting_control c) ≡ Some control.Settings → IsStarted r → ⊥
unfolding first_frame
quiet-settings c r s first started =
    let b = begins-there c.control (option_to_list (latest_credit c)) (latest-other c.answers c.owed) first in
    let none = settings-wait r (map frame_of c.control) (map frame_of b.behind) s.controls (ap (map frame_of) b.is) in
    true≢false (sym started.started ∙ none)

-- ---- frames on a stream

-- the spelling of the fields in a block, of which the connection's first has the size update before them
kept-block : (headed : Bool) (block spelling : List ℕ) → block ≡ (if headed then [] else 32 ∷ []) ++ spelling → drop (if headed then 0 else 1) block ≡ spelling
kept-block true block spelling e = e
kept-block false block spelling e = ap (drop 1) e

-- WINDOW_UPDATE on the stream, which waits
record CreditHeld (id : ℕ) (waiting : List Control) : Type 0 where
  before : List Frame
  behind : List Frame
  add : ℕ
  is : map frame_of waiting ≡ before ++ frames.Window id add ∷ behind

credit-is : (id : ℕ) (x : Control) → is_credit_on id x ≡ true → (add : ℕ) × (frame_of x ≡ frames.Window id add)
credit-is id (control.Credit stream add) e = (add, ap (λ on. frames.Window on add) (sym (same-eq id stream e)))
credit-is id x e = absurd (true≢false (sym e))

credit-held : (id : ℕ) (waiting : List Control) → is_held_by waiting id ≡ true → CreditHeld id waiting
credit-held id [] e = absurd (true≢false (sym e))
credit-held id (x ∷ xs) e = by-test (is_credit_on id x)
    (λ here. let it = credit-is id x here in record { before = []; behind = map frame_of xs; add = it.0; is = ap (λ frame. frame ∷ map frame_of xs) it.1 })
    (λ other. let later = credit-held id xs ((λ i. sym other i || is_held_by xs id) ∙ e) in record { before = frame_of x ∷ later.before; behind = later.behind; add = later.add; is = ap (λ list. frame_of x ∷ list) later.is })

first-kept : (resets behind : List ℕ) (code : ℕ) → resets ≡ code ∷ behind → resets ≡ code ∷ drop 1 resets
first-kept resets behind code e = e ∙ ap (λ rest. code ∷ rest) (sym (ap (drop 1) e))

module _ (c : Held) (r : Record) (s : OpenStands c r) where
  -- the frame is what waits first on its stream
  text-waits : (id : ℕ) (frame : Frame) (t : IsNextText r id frame) → waiting_text (waiting_on c.answers id) ≡ frame_text r id frame ++ t.behind
  text-waits id frame t =
      let w : WaitsLive r id (waiting_on c.answers id) = subst (λ (live : Bool). WaitsBy live r id (waiting_on c.answers id)) t.live (s.streams.waits id) in
      append_cancel_left (written_text r id) (waiting_text (waiting_on c.answers id)) (frame_text r id frame ++ t.behind) (w.text ∙ sym t.next ∙ append_assoc (written_text r id) (frame_text r id frame) t.behind)

  send-live : (id : ℕ) → is_live r id ≡ true → send_on c.streams id ≡ send_window_of r id
  send-live id live =
      ap (λ found. unwrap_or (option_map (λ (stream : Stream). stream.send) found) (pos 0)) (s.streams.found id)
      ∙ (λ i. unwrap_or (option_map (λ (stream : Stream). stream.send) (if live i then Some (entry_of r id) else None)) (pos 0))

  -- what DATA that are due say of what waits, and how long their frame is
  data-waits : (id : ℕ) (ended : Bool) (byte : ℕ) (bytes : List ℕ) (counted : ℕ) → IsDueData r id ended (byte ∷ bytes) counted
      → IsDuePart (bounds_in c 0) id (waiting_on c.answers id) (part.Body (length (byte ∷ bytes))) × (frame_len (frames.Body id ended (byte ∷ bytes) counted) ≡ 9 + length (byte ∷ bytes))
  data-waits id ended byte bytes counted due =
      let w = waiting_on c.answers id in
      let len = length (byte ∷ bytes) in
      let text = text-waits id (frames.Body id ended (byte ∷ bytes) counted) due.text ∙ (λ i. (if same-self id i then map Octet (byte ∷ bytes) else []) ++ due.text.behind) in
      let o = octets-wait w.head (data_of w) w.tail w.resets byte bytes due.text.behind text in
      let stream = subst (λ (n : ℤ). pos len ≤ℤ n) (sym (send-live id due.text.live)) due.stream in
      let connection = subst (λ (n : ℤ). pos len ≤ℤ n) (sym s.window) due.connection in
      (((o.first, due.some, due.small, o.within), (stream, connection)), ap (λ e. frame_len (frames.Body id e (byte ∷ bytes) counted)) due.goes_on ∙ frame_len-body id (byte ∷ bytes) counted)

  full-by : (room id len : ℕ) → IsFull (bounds_in c room) id (waiting_on c.answers id) (part.Body len) → (more : List ℕ) → len < length more → IsDueData r id false more (length more)
      → room < frame_len (frames.Body id false more (length more))
  full-by room id len full [] longer due = absurd (omega (arith, longer))
  full-by room id len full (byte ∷ bytes) longer due =
      let d = data-waits id false byte bytes (length (byte ∷ bytes)) due in
      let over = full (length (byte ∷ bytes)) longer due.small d.0.0.3 d.0.1 in
      omega (arith, over, d.1)

  longest-by : (room id : ℕ) (p : Part) → IsFull (bounds_in c room) id (waiting_on c.answers id) p → IsNext (waiting_on c.answers id) p → IsLongest r room (part_frame c (record { stream = id; part = p }))
  longest-by room id (part.Head end) full next = tt
  longest-by room id (part.Body len) full next = λ more longer due. full-by room id len full more (omega (arith, longer, next.3, length-take len (data_of (waiting_on c.answers id)))) due
  longest-by room id part.Tail full next = tt
  longest-by room id (part.Reset code) full next = tt

  -- DATA that go are as long as they may be
  pub part-longest : (room : ℕ) (due : Due) → IsNextIn c room (next.Part due) → IsLongest r room (part_frame c due)
  part-longest room due n = longest-by room due.stream due.part n.1.full n.1.due.0

-- where no part of an answer is due that fits
module _ (c : Held) (r : Record) (room : ℕ) (s : OpenStands c r) (none : IsNextDue (bounds_in c room) c.answers None) where
  quiet-body : (id : ℕ) (ended : Bool) (bytes : List ℕ) (counted : ℕ) → IsDueData r id ended bytes counted → frame_len (frames.Body id ended bytes counted) ≤ room → ⊥
  quiet-body id ended [] counted due fits = omega (arith, due.some)
  quiet-body id ended (byte ∷ bytes) counted due fits =
      let w = waiting_on c.answers id in
      let len = length (byte ∷ bytes) in
      let d = data-waits c r s id ended byte bytes counted due in
      none id (part.Body len) d.0 (omega (arith, fits, d.1, d.0.0.3, frame_len-body id (take len (data_of w)) len, length-take len (data_of w)))

  quiet-headers : (id : ℕ) (ended whole : Bool) (block : List ℕ) → IsDueHeaders r id ended whole block → frame_len (frames.Headers id ended whole block) ≤ room → ⊥
  quiet-headers id ended whole block due fits =
      let w = waiting_on c.answers id in
      let kept : drop (if has_headed r then 0 else 1) block ≡ due.spelling = kept-block (has_headed r) block due.spelling due.octets in
      let text = text-waits c r s id (frames.Headers id ended whole block) due.text ∙ (λ i. (if same-self id i then Fields ended (kept i) ∷ [] else []) ++ due.text.behind) in
      waits-by (fields-wait w.head (data_of w) w.tail w.resets ended due.spelling due.text.behind text)
    where
      whole-block : block_of (not c.has_headed) due.spelling ≡ block
      whole-block = (λ i. block_of (not (s.headed i)) due.spelling) ∙ block-octets (has_headed r) due.spelling ∙ sym due.octets

      len-is : (end : Bool) (spelled : List ℕ) → end ≡ ended → spelled ≡ due.spelling
          → frame_len (frames.Headers id end true (block_of (not c.has_headed) spelled)) ≡ frame_len (frames.Headers id ended whole block)
      len-is end spelled e same =
          (λ i. frame_len (frames.Headers id (e i) true (block_of (not c.has_headed) (same i)))) ∙ (λ i. frame_len (frames.Headers id ended (sym due.in_one i) (whole-block i)))

      fits-too : (end : Bool) (spelled : List ℕ) → end ≡ ended → spelled ≡ due.spelling → frame_len (frames.Headers id end true (block_of (not c.has_headed) spelled)) ≤ room
      fits-too end spelled e same = omega (arith, fits, len-is end spelled e same)

      waits-by : FieldsWait (waiting_on c.answers id).head (data_of (waiting_on c.answers id)) (waiting_on c.answers id).tail ended due.spelling → ⊥
      waits-by (HeadWaits is) = none id (part.Head ended) ((record { block = due.spelling; end = ended }, is, refl), tt) (fits-too ended (head_block (waiting_on c.answers id).head) refl (ap head_block is))
      waits-by (TailWaits before empty is ends) =
          none id part.Tail ((before, empty, subst IsSome (sym is) refl), tt) (fits-too true (unwrap_or (waiting_on c.answers id).tail []) (sym ends) (ap (λ tail. unwrap_or tail []) is))

  -- a control frame of the stream that waits is due
  unheld : (id : ℕ) → (WaitsControl r id → ⊥) → is_held_by (waiting_control c) id ≡ false
  unheld id free = by-test (is_held_by (waiting_control c) id)
      (λ held. let h = credit-held id (waiting_control c) held in absurd (free (record {
        before = h.before;
        behind = h.behind;
        add = h.add;
        waits =
            append_assoc (written_control_of r) h.before (frames.Window id h.add ∷ h.behind)
            ∙ ap (λ list. written_control_of r ++ list) (sym h.is) ∙ settled-waiting c r s;
      })))
      (λ unheld. unheld)

  reset-waits : (id code : ℕ) → IsNextText r id (frames.Reset id code) ⊎ IsNextCode r id code
      → CodeWaits (waiting_on c.answers id).head (data_of (waiting_on c.answers id)) (waiting_on c.answers id).tail (waiting_on c.answers id).resets code
  reset-waits id code (inl t) =
      let w = waiting_on c.answers id in
      code-waits w.head (data_of w) w.tail w.resets code t.behind
      (text-waits c r s id (frames.Reset id code) t ∙ (λ i. (if same-self id i && t.live i then Aborted code ∷ [] else []) ++ t.behind))
  reset-waits id code (inr n) =
      let w = waiting_on c.answers id in
      let closed : WaitsClosed r id w = subst (λ (live : Bool). WaitsBy live r id w) n.closed (s.streams.waits id) in
      record {
        first = ap (λ (x : Waiting). x.head) closed.text;
        none = ap data_of closed.text;
        endless = ap (λ (x : Waiting). x.tail) closed.text;
        is = first-kept w.resets n.behind code (append_cancel_left (written_codes r id) w.resets (code ∷ n.behind) (closed.resets ∙ sym n.next));
      }

  quiet-reset : (id code : ℕ) → IsDueReset r id code → frame_len (frames.Reset id code) ≤ room → ⊥
  quiet-reset id code due fits = let w = reset-waits id code due.next in none id (part.Reset code) ((w.first, w.none, w.endless, w.is), unheld id due.free) fits

  quiet-answers : IsTooLong (first_of (waiting_control c)) room → (frame : Frame) → IsDue r frame → frame_len frame ≤ room → ⊥
  quiet-answers long (frames.Headers stream ended whole block) due fits = quiet-headers stream ended whole block due fits
  quiet-answers long (frames.Body stream ended bytes counted) due fits = quiet-body stream ended bytes counted due fits
  quiet-answers long (frames.Reset stream code) due fits = quiet-reset stream code due fits
  quiet-answers long frame due fits = quiet-control r (waiting_control c) room (settled-waiting c r s) long frame due fits

-- while SETTINGS wait
quiet-first : (c : Held) (r : Record) (room : ℕ) → OpenStands c r → IsTooLong (first_of (waiting_control c)) room → first_of (waiting_control c) ≡ Some control.Settings
    → (frame : Frame) → IsDue r frame → frame_len frame ≤ room → ⊥
quiet-first c r room s long first (frames.Headers stream ended whole block) due fits = quiet-settings c r s first due.text.started
quiet-first c r room s long first (frames.Body stream ended bytes counted) due fits = quiet-settings c r s first due.text.started
quiet-first c r room s long first (frames.Reset stream code) due fits = quiet-settings c r s first (reset-started r stream code due.next)
quiet-first c r room s long first frame due fits = quiet-control r (waiting_control c) room (settled-waiting c r s) long frame due fits

pub quiet-open : (c : Held) (r : Record) (room : ℕ) → OpenStands c r → IsNextIn c room next.Nothing → (frame : Frame) → IsDue r frame → frame_len frame ≤ room → ⊥
quiet-open c r room s (long, inl first) frame due fits = quiet-first c r room s long first frame due fits
quiet-open c r room s (long, inr none) frame due fits = quiet-answers c r room s none long frame due fits
