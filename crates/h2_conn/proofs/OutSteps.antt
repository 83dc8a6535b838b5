-- What a frame that went leaves of a connection: its control frames, one by one.
use Rattle.std.proofs.Common.{◌≡◌, ℕ, ◌+◌, ◌≤◌, nat_eq, ◌==◌, Bool, true, false, cond, List, [], ◌∷◌, ◌++◌, map, Option, None, Some, IsSome, ℤ, pos, ◌+ℤ◌, ◌-ℤ◌, ◌≤ℤ◌, inl, inr, refl, sym, ap, subst, ◌∙◌, arith, append-nil, append_assoc, if◌then◌else◌}
use Rattle.std.proofs.lemmas.Int.{ints}
use Rattle.std.specs.List.{AllByRecursion}
use Rattle.std.specs.Map.{keys_of, lookup}
use Rattle.std.proofs.lemmas.Map.{keys-set_value}
use Rattle.h2_frames.specs.declared.frame.Frame.{Frame}
use Rattle.h2_frames.specs.declared.frame.Frame.TheVariants as frames
use Rattle.h2_frames.specs.declared.fault.H2Fault.{H2Fault}
use Rattle.h2_flow.specs.Range.{greatest}
use Rattle.h2_streams.specs.declared.stream.Stream.{Stream}
use Rattle.h2_streams.specs.Book.{Book, find, with_stream}
use Rattle.h2_answers.specs.Waiting.{Waiting, waiting_on}
use Rattle.h2_record.specs.declared.control.Control.{Control}
use Rattle.h2_record.specs.declared.control.Control.TheVariants as control
use Rattle.h2_record.specs.Record.{Record, Out, sum_in, sum_out}
use Rattle.h2_record.specs.Windows.{connection_window_of, with_increment, with_payload, first_window}
use Rattle.h2_record.specs.Ids.{last_of}
use Rattle.h2_record.specs.Live.{is_live_with, entry_of}
use Rattle.h2_record.specs.Resets.{reset_behind, resets_of, is_live, stream_of, live_of}
use Rattle.h2_record.specs.Faults.{first_fault_of}
use Rattle.h2_record.specs.Credits.{kept_of, freed_by}
use Rattle.h2_record.specs.Control.{frame_of, control_of, due_after, written_control_of}
use Rattle.h2_record.specs.Texts.{has_headed, written_text}
use Rattle.h2_conn.specs.KeptCredit.{kept_on}
use Rattle.h2_conn.specs.Held.{Held}
use Rattle.h2_conn.specs.Stands.{StreamsStand, OpenStands, FaultStands}
use Rattle.h2_conn.specs.Waits.{waiting_text, WaitsBy}
use Rattle.h2_conn.specs.Producing.{CreditedBy, Leaves}
use Rattle.h2_record.specs.Settling.{settled_control}
use Rattle.h2_conn.specs.Taking.{Settled}
use Rattle.h2_record.proofs.BoolLemmas.{same-self}
use Rattle.h2_conn.proofs.CloseLemmas.{found-set}
use Rattle.h2_record.proofs.KeptLaws.{is_keeping, kept-out}
use Rattle.h2_record.proofs.ControlLaws.{IsBegunTo, settled-begun, all-behind}
use Rattle.h2_conn.proofs.OutLemmas.{GoesOn, streams-out}
use Rattle.h2_conn.proofs.WindowLaws.{credit-fits}

-- the control frames due behind it
pub control-out : (r : Record) (frame : Frame) → first_fault_of r ≡ None → control_of (Out frame ∷ r) ≡ settled_control r ++ freed_by r frame
control-out r frame sound = ap (λ earlier. due_after (control_of r) (freed_by r frame) r earlier None) sound

-- a connection whose parts are seen to stands for the record with the frame
abbrev pub out_after : Held → (window : ℤ) → Book → List Control → List (ℕ × ℕ) → Bool → List (ℕ × Waiting) → (unwritten : ℕ) → Held
out_after c window streams controls kept headed answers unwritten =
    record c { window = window; streams = streams; control = controls; kept = kept; has_headed = headed; answers = answers; unwritten = unwritten }

pub stands-out : (c : Held) (r : Record) (frame : Frame) (window : ℤ) (streams : Book) (controls : List Control) (kept : List (ℕ × ℕ)) (headed : Bool) (answers : List (ℕ × Waiting)) (unwritten : ℕ)
    → Settled c r → window ≡ connection_window_of (Out frame ∷ r) → StreamsStand streams answers (Out frame ∷ r)
    → written_control_of (Out frame ∷ r) ++ map frame_of controls ≡ settled_control r ++ freed_by r frame
    → ((id : ℕ) → kept_on kept id ≡ kept_of (Out frame ∷ r) id) → headed ≡ has_headed (Out frame ∷ r)
    → OpenStands (out_after c window streams controls kept headed answers unwritten) (Out frame ∷ r)
stands-out c r frame window streams controls kept headed answers unwritten s spent standing waiting keeping heads = record {
  sound = s.sound;
  begun = s.begun;
  window = spent;
  initial = s.initial;
  streams = standing;
  block = s.block;
  table = s.table;
  controls = waiting ∙ sym (control-out r frame s.sound);
  owing = s.owing;
  keeping = keeping;
  flood = s.flood;
  headed = heads;
}

-- ---- a control frame that went

-- the first of those that wait
first-out : (written waiting due : List Frame) (frame : Frame) → written ++ frame ∷ waiting ≡ due → (written ++ frame ∷ []) ++ waiting ≡ due ++ []
first-out written waiting due frame e = append_assoc written (frame ∷ []) waiting ∙ e ∙ sym (append-nil due)

written-by : (r : Record) (x : Control) → written_control_of (Out (frame_of x) ∷ r) ≡ written_control_of r ++ frame_of x ∷ []
written-by r control.Settings = refl
written-by r control.SettingsAck = refl
written-by r (control.Pong octets) = refl
written-by r (control.Goaway last code) = refl
written-by r (control.Credit stream add) = refl

freed-none : (r : Record) (x : Control) → freed_by r (frame_of x) ≡ []
freed-none r control.Settings = refl
freed-none r control.SettingsAck = refl
freed-none r (control.Pong octets) = refl
freed-none r (control.Goaway last code) = refl
freed-none r (control.Credit stream add) = refl

pub controls-out : (r : Record) (x : Control) (rest : List Control) (due : List Frame) → written_control_of r ++ map frame_of (x ∷ rest) ≡ due
    → written_control_of (Out (frame_of x) ∷ r) ++ map frame_of rest ≡ due ++ freed_by r (frame_of x)
controls-out r x rest due e =
    (λ i. written-by r x i ++ map frame_of rest) ∙ first-out (written_control_of r) (map frame_of rest) due (frame_of x) e ∙ sym (ap (λ freed. due ++ freed) (freed-none r x))

-- it is no header block
headed-none : (r : Record) (x : Control) → has_headed (Out (frame_of x) ∷ r) ≡ has_headed r
headed-none r control.Settings = refl
headed-none r control.SettingsAck = refl
headed-none r (control.Pong octets) = refl
headed-none r (control.Goaway last code) = refl
headed-none r (control.Credit stream add) = refl

-- after a connection error
pub faulty-out : (c : Held) (r : Record) (fault : H2Fault) (x : Control) (rest : List Control) (unwritten : ℕ) → FaultStands c fault r → c.control ≡ x ∷ rest
    → FaultStands (record c { control = rest; unwritten = unwritten }) fault (Out (frame_of x) ∷ r)
faulty-out c r fault x rest unwritten s first = record {
  met = s.met;
  begun = s.begun;
  headed = s.headed ∙ sym (headed-none r x);
  control =
      (λ i. written-by r x i ++ map frame_of rest)
      ∙ append_assoc (written_control_of r) (frame_of x ∷ []) (map frame_of rest)
      ∙ ap (λ waiting. written_control_of r ++ map frame_of waiting) (sym first) ∙ s.control
      ∙ sym (ap (λ earlier. due_after (control_of r) (freed_by r (frame_of x)) r earlier None) s.met);
  waits = s.waits;
}

-- what waits on a stream, and what is kept of it, is as it was
waits-control : (r : Record) (x : Control) (id : ℕ) (waiting : Waiting) (live : Bool) → WaitsBy live r id waiting → WaitsBy live (Out (frame_of x) ∷ r) id waiting
unfolding reset_behind is_live_with
waits-control r control.Settings id waiting true w = record { unreset = w.unreset; unfinished = w.unfinished; text = ap (λ text. text ++ waiting_text waiting) (append-nil (written_text r id)) ∙ w.text; replies = w.replies }
waits-control r control.SettingsAck id waiting true w = record { unreset = w.unreset; unfinished = w.unfinished; text = ap (λ text. text ++ waiting_text waiting) (append-nil (written_text r id)) ∙ w.text; replies = w.replies }
waits-control r (control.Pong octets) id waiting true w = record { unreset = w.unreset; unfinished = w.unfinished; text = ap (λ text. text ++ waiting_text waiting) (append-nil (written_text r id)) ∙ w.text; replies = w.replies }
waits-control r (control.Goaway last code) id waiting true w = record { unreset = w.unreset; unfinished = w.unfinished; text = ap (λ text. text ++ waiting_text waiting) (append-nil (written_text r id)) ∙ w.text; replies = w.replies }
waits-control r (control.Credit stream add) id waiting true w = record { unreset = w.unreset; unfinished = w.unfinished; text = ap (λ text. text ++ waiting_text waiting) (append-nil (written_text r id)) ∙ w.text; replies = w.replies }
waits-control r control.Settings id waiting false w = record { text = w.text; resets = w.resets }
waits-control r control.SettingsAck id waiting false w = record { text = w.text; resets = w.resets }
waits-control r (control.Pong octets) id waiting false w = record { text = w.text; resets = w.resets }
waits-control r (control.Goaway last code) id waiting false w = record { text = w.text; resets = w.resets }
waits-control r (control.Credit stream add) id waiting false w = record { text = w.text; resets = w.resets }

-- what a control frame leaves of the record's other parts
record SamePart (r : Record) (frame : Frame) : Type 0 where
  same_live : (id : ℕ) → is_live (Out frame ∷ r) id ≡ is_live r id
  same_keeping : (id : ℕ) → is_keeping (Out frame ∷ r) id ≡ is_keeping r id
  same_window : connection_window_of (Out frame ∷ r) ≡ connection_window_of r
  same_headed : has_headed (Out frame ∷ r) ≡ has_headed r
  same_resets : resets_of (Out frame ∷ r) ≡ resets_of r
  same_ids : live_of (Out frame ∷ r) ≡ live_of r

same-part : (r : Record) (x : Control) → SamePart r (frame_of x)
unfolding reset_behind is_live_with is_keeping
same-part r control.Settings = record { same_live = λ id. refl; same_keeping = λ id. refl; same_window = refl; same_headed = refl; same_resets = refl; same_ids = refl }
same-part r control.SettingsAck = record { same_live = λ id. refl; same_keeping = λ id. refl; same_window = refl; same_headed = refl; same_resets = refl; same_ids = refl }
same-part r (control.Pong octets) = record { same_live = λ id. refl; same_keeping = λ id. refl; same_window = refl; same_headed = refl; same_resets = refl; same_ids = refl }
same-part r (control.Goaway last code) = record { same_live = λ id. refl; same_keeping = λ id. refl; same_window = refl; same_headed = refl; same_resets = refl; same_ids = refl }
same-part r (control.Credit stream add) = record { same_live = λ id. refl; same_keeping = λ id. refl; same_window = refl; same_headed = refl; same_resets = refl; same_ids = refl }

-- the streams, where it isn't WINDOW_UPDATE
data IsPlain : Control → Type 0 where
  PlainSettings : IsPlain control.Settings
  PlainAck : IsPlain control.SettingsAck
  PlainPong : (octets : List ℕ) → IsPlain (control.Pong octets)
  PlainGoaway : (last code : ℕ) → IsPlain (control.Goaway last code)

streams-plain : (streams : Book) (answers : List (ℕ × Waiting)) (r : Record) (x : Control) → IsPlain x → StreamsStand streams answers r → StreamsStand streams answers (Out (frame_of x) ∷ r)
unfolding reset_behind is_live_with
streams-plain streams answers r x PlainSettings s = record {
  last = s.last;
  remembered = s.remembered;
  found = s.found;
  live = s.live;
  waits = λ id. waits-control r x id (waiting_on answers id) (is_live r id) (s.waits id);
  fresh = s.fresh;
}
streams-plain streams answers r x PlainAck s = record {
  last = s.last;
  remembered = s.remembered;
  found = s.found;
  live = s.live;
  waits = λ id. waits-control r x id (waiting_on answers id) (is_live r id) (s.waits id);
  fresh = s.fresh;
}
streams-plain streams answers r x (PlainPong octets) s = record {
  last = s.last;
  remembered = s.remembered;
  found = s.found;
  live = s.live;
  waits = λ id. waits-control r x id (waiting_on answers id) (is_live r id) (s.waits id);
  fresh = s.fresh;
}
streams-plain streams answers r x (PlainGoaway last code) s = record {
  last = s.last;
  remembered = s.remembered;
  found = s.found;
  live = s.live;
  waits = λ id. waits-control r x id (waiting_on answers id) (is_live r id) (s.waits id);
  fresh = s.fresh;
}

-- the streams, where it is
module _ (streams streams' : Book) (answers : List (ℕ × Waiting)) (r : Record) (stream add : ℕ) (s : StreamsStand streams answers r) (within : stream ≤ last_of r) where
  credit-here : Bool → ℕ → Option Stream
  credit-here live sum = if live then Some (record (entry_of r stream) { receive = pos sum -ℤ pos (sum_in (with_payload stream) 0 r) }) else None

  stream-credited : stream_of (Out (frames.Window stream add) ∷ r) stream ≡ credit-here (is_live r stream) (sum_out (with_increment stream) first_window r + add)
  unfolding reset_behind is_live_with credit-here
  stream-credited = λ i. credit-here (is_live r stream) (if same-self stream i then sum_out (with_increment stream) first_window r + add else sum_out (with_increment stream) first_window r)

  goes-credit : find streams' stream ≡ stream_of (Out (frames.Window stream add) ∷ r) stream → ((other : ℕ) → (stream == other) ≡ false → find streams' other ≡ find streams other)
      → keys_of streams'.live ≡ keys_of streams.live → streams'.last ≡ streams.last → streams'.resets ≡ streams.resets
      → GoesOn streams streams' answers answers r (frames.Window stream add) stream None
  unfolding reset_behind is_live_with
  goes-credit here others keys last resets = record {
    made = refl;
    of = tt;
    on = λ other off. off;
    within = within;
    last = last;
    remembered = resets ∙ s.remembered;
    here = here;
    others = others;
    keys = keys ∙ s.live;
    waits = waits-control r (control.Credit stream add) stream (waiting_on answers stream) (is_live r stream) (s.waits stream);
    rest = λ other differ. refl;
  }

  credit-shut : find streams stream ≡ None → streams' ≡ streams → GoesOn streams streams' answers answers r (frames.Window stream add) stream None
  unfolding credit-here
  credit-shut none same = goes-credit
      (ap (λ (b : Book). find b stream) same ∙ none ∙ sym (stream-credited ∙ shut-by (is_live r stream) (sym (s.found stream) ∙ none)))
      (λ other differ. ap (λ (b : Book). find b other) same) (ap (λ (b : Book). keys_of b.live) same) (ap (λ (b : Book). b.last) same) (ap (λ (b : Book). b.resets) same)
    where
      shut-by : (live : Bool) → (if live then Some (entry_of r stream) else None) ≡ None → credit-here live (sum_out (with_increment stream) first_window r + add) ≡ None
      shut-by true e = absurd (cc)
      shut-by false e = refl

  credit-live : (known : Stream) → find streams stream ≡ Some known → streams' ≡ with_stream streams stream (record known { receive = known.receive +ℤ pos add })
      → GoesOn streams streams' answers answers r (frames.Window stream add) stream None
  unfolding credit-here
  credit-live known found set =
      let more : Stream = record known { receive = known.receive +ℤ pos add } in
      let there : IsSome (find streams stream) = subst IsSome (sym found) refl in
      goes-credit
      (ap (λ (b : Book). find b stream) set ∙ found-set streams.live stream stream more there ∙ ap (λ b. cond b (Some more) (lookup (nat_eq stream) streams.live)) (same-self stream)
      ∙ sym (stream-credited ∙ live-by (is_live r stream) (sym (s.found stream) ∙ found)))
      (λ other differ. ap (λ (b : Book). find b other) set ∙ found-set streams.live stream other more there ∙ ap (λ b. cond b (Some more) (lookup (nat_eq other) streams.live)) differ)
      (ap (λ (b : Book). keys_of b.live) set ∙ keys-set_value (nat_eq stream) streams.live more) (ap (λ (b : Book). b.last) set) (ap (λ (b : Book). b.resets) set)
    where
      live-by : (live : Bool) → (if live then Some (entry_of r stream) else None) ≡ Some known
          → credit-here live (sum_out (with_increment stream) first_window r + add) ≡ Some (record known { receive = known.receive +ℤ pos add })
      live-by true e =
          let same : entry_of r stream ≡ known = cc in
          let sum = sum_out (with_increment stream) first_window r in
          let payload = sum_in (with_payload stream) 0 r in
          let moved : pos (sum + add) -ℤ pos payload ≡ (pos sum -ℤ pos payload) +ℤ pos add = omega (arith, ints) in
          (λ i. Some (record (entry_of r stream) { receive = moved i })) ∙ ap (λ (k : Stream). Some (record k { receive = k.receive +ℤ pos add })) same
      live-by false e = absurd (cc)

  streams-credit : (found : Option Stream) → find streams stream ≡ found → ((known : Stream) → found ≡ Some known → (known.receive +ℤ pos add) ≤ℤ greatest) → CreditedBy found streams stream add streams'
      → StreamsStand streams' answers (Out (frames.Window stream add) ∷ r)
  streams-credit None e fits same = streams-out streams streams' answers answers r (frames.Window stream add) stream None (credit-shut e same) s
  streams-credit (Some known) e fits (inl (within, set)) = streams-out streams streams' answers answers r (frames.Window stream add) stream None (credit-live known e set) s
  streams-credit (Some known) e fits (inr (above, same)) = let f = fits known refl in absurd (omega (arith, ints, f, above))

-- ---- the whole connection

-- the window of the stream can hold the credit
abbrev IsHeld : Control → Book → Type 0
IsHeld (control.Credit stream add) streams = (known : Stream) → find streams stream ≡ Some known → (known.receive +ℤ pos add) ≤ℤ greatest
IsHeld x streams = Unit {0}

held-first : (c : Held) (r : Record) (x : Control) (rest : List Control) → Settled c r → c.control ≡ x ∷ rest → IsHeld x c.streams
held-first c r (control.Credit stream add) rest s first = λ known found. credit-fits c r stream add rest known s first found
held-first c r control.Settings rest s first = tt
held-first c r control.SettingsAck rest s first = tt
held-first c r (control.Pong octets) rest s first = tt
held-first c r (control.Goaway last code) rest s first = tt

streams-control : (streams streams' : Book) (answers : List (ℕ × Waiting)) (r : Record) (x : Control) → StreamsStand streams answers r → IsBegunTo (last_of r) (frame_of x) → IsHeld x streams → Leaves x streams streams'
    → StreamsStand streams' answers (Out (frame_of x) ∷ r)
streams-control streams streams' answers r control.Settings s begun held same = subst (λ (b : Book). StreamsStand b answers (Out (frame_of control.Settings) ∷ r)) (sym same) (streams-plain streams answers r control.Settings PlainSettings s)
streams-control streams streams' answers r control.SettingsAck s begun held same = subst (λ (b : Book). StreamsStand b answers (Out (frame_of control.SettingsAck) ∷ r)) (sym same) (streams-plain streams answers r control.SettingsAck PlainAck s)
streams-control streams streams' answers r (control.Pong octets) s begun held same = subst (λ (b : Book). StreamsStand b answers (Out (frame_of (control.Pong octets)) ∷ r)) (sym same) (streams-plain streams answers r (control.Pong octets) (PlainPong octets) s)
streams-control streams streams' answers r (control.Goaway last code) s begun held same = subst (λ (b : Book). StreamsStand b answers (Out (frame_of (control.Goaway last code)) ∷ r)) (sym same) (streams-plain streams answers r (control.Goaway last code) (PlainGoaway last code) s)
streams-control streams streams' answers r (control.Credit stream add) s begun held credited = streams-credit streams streams' answers r stream add s begun (find streams stream) refl held credited

pub control-goes : (c : Held) (r : Record) (x : Control) (rest : List Control) (streams' : Book) (unwritten : ℕ) → Settled c r → c.control ≡ x ∷ rest → Leaves x c.streams streams'
    → OpenStands (record c { streams = streams'; control = rest; unwritten = unwritten }) (Out (frame_of x) ∷ r)
control-goes c r x rest streams' unwritten s first leaves =
    let same = same-part r x in
    let controls : written_control_of r ++ map frame_of (x ∷ rest) ≡ settled_control r = ap (λ waiting. written_control_of r ++ map frame_of waiting) (sym first) ∙ s.controls in
    let all = all-behind (IsBegunTo (last_of r)) (written_control_of r) (map frame_of (x ∷ rest)) (subst (λ (list : List Frame). AllByRecursion (IsBegunTo (last_of r)) list) (sym controls) (settled-begun r)) in
    stands-out c r (frame_of x) c.window streams' rest c.kept c.has_headed c.answers unwritten s
    (s.window ∙ sym same.same_window) (streams-control c.streams streams' c.answers r x s.streams all.0 (held-first c r x rest s first) leaves)
    (controls-out r x rest (settled_control r) controls)
    (λ id. s.keeping id ∙ sym (kept-out r (frame_of x) id (same.same_keeping id)))
    (s.headed ∙ sym same.same_headed)
