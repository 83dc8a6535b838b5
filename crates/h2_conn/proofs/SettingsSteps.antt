-- What SETTINGS leave of a connection.
use Rattle.std.proofs.Common.{◌≡◌, ℕ, ◌+◌, ◌==◌, nat_eq, Bool, true, false, cond, ◌&&◌, ◌||◌, List, [], ◌∷◌, ◌++◌, map, None, Some, is_some, find as find_first, ℤ, pos, ◌+ℤ◌, ◌-ℤ◌, int_lt, refl, sym, ap, ◌∙◌, arith, if◌then◌else◌}
use Rattle.std.specs.List.{list_any, AllByRecursion, IsDistinct}
use Rattle.std.specs.Option.{option_or, option_map}
use Rattle.std.specs.Map.{keys_of, values_of, lookup}
use Rattle.std.proofs.lemmas.Int.{ints}
use Rattle.h2_frames.specs.declared.frame.Frame.TheVariants as frames
use Rattle.h2_frames.specs.declared.pairs.Pair.{Pair}
use Rattle.h2_frames.specs.declared.fault.H2Fault.{H2Fault}
use Rattle.h2_flow.specs.Range.{greatest}
use Rattle.h2_streams.specs.declared.stream.Stream.{Stream}
use Rattle.h2_streams.specs.Book.{Book, find}
use Rattle.h2_streams.specs.Shifts.{first_above, is_above, shifted_by, shifted}
use Rattle.h2_answers.specs.Waiting.{waiting_on}
use Rattle.h2_record.specs.declared.control.Control.TheVariants as control
use Rattle.h2_record.specs.Record.{Record, In, sum_in}
use Rattle.h2_record.specs.Windows.{initial_after, initial_of, send_window_of, with_increment, initial_window_size}
use Rattle.h2_record.specs.Live.{is_live_with, entry_of}
use Rattle.h2_record.specs.Resets.{reset_by, is_live}
use Rattle.h2_record.specs.Faults.{flood_code}
use Rattle.h2_record.specs.Rules.{broken, code_if, pair_passes, passes_greatest}
use Rattle.h2_conn.specs.Shift.{is_too_large}
use Rattle.h2_conn.specs.Held.{Held}
use Rattle.h2_conn.specs.Stands.{StreamsStand}
use Rattle.h2_conn.specs.Taking.{Settled, early_of, Fails, Takes}
use Rattle.h2_record.specs.Early.{late_fault}
use Rattle.h2_record.proofs.BoolLemmas.{same-self, apart-flip}
use Rattle.h2_conn.proofs.SettledFaults.{breaks-late}
use Rattle.h2_conn.proofs.FloodLemmas.{count-flood}
use Rattle.h2_record.proofs.StepLemmas.{sound-in, controls-in, kept-in}
use Rattle.h2_conn.proofs.QuietLemmas.{waits-in}
use Rattle.h2_conn.proofs.CloseLemmas.{distinct-live}

-- each entry is found under its key
weaken : (e : ℕ × Stream) (es sub : List (ℕ × Stream)) → AllByRecursion (λ y. nat_eq e.0 y ≡ false) (keys_of sub)
    → AllByRecursion (λ d. lookup (nat_eq d.0) es ≡ Some d.1) sub → AllByRecursion (λ d. lookup (nat_eq d.0) (e ∷ es) ≡ Some d.1) sub
weaken e es [] apart all = tt
weaken e es (d ∷ sub) apart all =
    (ap (λ b. cond b (Some e.1) (lookup (nat_eq d.0) es)) (apart-flip e.0 d.0 apart.0) ∙ all.0, weaken e es sub apart.1 all.1)

found-all : (es : List (ℕ × Stream)) → IsDistinct nat_eq (keys_of es) → AllByRecursion (λ d. lookup (nat_eq d.0) es ≡ Some d.1) es
unfolding IsDistinct
found-all [] distinct = tt
found-all (e ∷ es) distinct = (ap (λ b. cond b (Some e.1) (lookup (nat_eq e.0) es)) (same-self e.0), weaken e es es distinct.0 (found-all es distinct.1))

any-entries : (p : Stream → Bool) (q : ℕ → Bool) (es : List (ℕ × Stream)) → AllByRecursion (λ e. q e.0 ≡ p e.1) es → list_any q (keys_of es) ≡ list_any p (values_of es)
any-entries p q [] all = refl
any-entries p q (e ∷ es) all = λ i. all.0 i || any-entries p q es all.1 i

some-found : (p : Stream → Bool) (xs : List Stream) → is_some (find_first p xs) ≡ list_any p xs
some-found p [] = refl
some-found p (x ∷ xs) = by (p x) (some-found p xs)
  where
    by : (b : Bool) → is_some (find_first p xs) ≡ list_any p xs → is_some (cond b (Some x) (find_first p xs)) ≡ (b || list_any p xs)
    by true rest = refl
    by false rest = rest

entry-send : (live : Bool) (entry stream : Stream) → (if live then Some entry else None) ≡ Some stream → stream.send ≡ entry.send
entry-send true entry stream e = let same : entry ≡ stream = cc in ap (λ (s : Stream). s.send) (sym same)
entry-send false entry stream e = absurd (cc)

-- a pair that makes a live stream's window pass the greatest
module _ (c : Held) (r : Record) (s : Settled c r) (value : ℕ) where
  by_entry : Stream → Bool
  by_entry stream = is_above (pos value -ℤ pos c.initial) stream

  by_id : ℕ → Bool
  by_id id = int_lt greatest ((send_window_of r id -ℤ pos (initial_of r)) +ℤ pos value)

  each-entry : (es : List (ℕ × Stream)) → AllByRecursion (λ d. lookup (nat_eq d.0) c.streams.live ≡ Some d.1) es → AllByRecursion (λ d. by_id d.0 ≡ by_entry d.1) es
  unfolding by_entry by_id
  each-entry [] all = tt
  each-entry (e ∷ es) all =
      let send = entry-send (is_live r e.0) (entry_of r e.0) e.1 (sym (s.streams.found e.0) ∙ all.0) in
      let sum : ((send_window_of r e.0 -ℤ pos (initial_of r)) +ℤ pos value) ≡ (e.1.send +ℤ (pos value -ℤ pos c.initial)) = omega (arith, ints, send, s.initial) in
      (ap (int_lt greatest) sum, each-entry es all.1)

  pub passes-found : passes_greatest r value ≡ is_some (first_above c.streams (pos value -ℤ pos c.initial))
  unfolding by_entry by_id
  passes-found = ap (list_any by_id) (sym s.streams.live) ∙ any-entries by_entry by_id c.streams.live (each-entry c.streams.live (found-all c.streams.live (distinct-live c.streams c.answers r s.streams)))
      ∙ sym (some-found by_entry (values_of c.streams.live))

pairs-pass : (c : Held) (r : Record) → Settled c r → (pairs : List Pair) → list_any (pair_passes r) pairs ≡ list_any (is_too_large c.streams c.initial) pairs
pairs-pass c r s [] = refl
pairs-pass c r s (pair ∷ pairs) = λ i. (pair.id == initial_window_size && passes-found c r s pair.value i) || pairs-pass c r s pairs i

-- the late rules of SETTINGS
settings-late : (c : Held) (r : Record) (pairs : List Pair) (over : Bool) → Settled c r → list_any (is_too_large c.streams c.initial) pairs ≡ over
    → late_fault r (frames.Settings false pairs) ≡ option_or (broken 10 (code_if over 3)) (option_or (broken 17 (flood_code c.flood (frames.Settings false pairs))) None)
unfolding late_fault
settings-late c r pairs over s passes =
    (λ i. option_or (broken 10 (code_if ((pairs-pass c r s pairs ∙ passes) i) 3)) (option_or (broken 17 (flood_code (sym s.flood i) (frames.Settings false pairs))) None))

pub fails-shift : (c : Held) (r : Record) (pairs : List Pair) (streams : Book) → Settled c r → early_of c (frames.Settings false pairs) ≡ None
    → list_any (is_too_large c.streams c.initial) pairs ≡ true → streams.last ≡ c.streams.last → Fails r (frames.Settings false pairs) (record { code = 3; rule = 10 }) (record c { streams = streams })
fails-shift c r pairs streams s early over last = record {
  breaks = breaks-late c r (frames.Settings false pairs) s early ∙ settings-late c r pairs true s over;
  controls = s.controls;
  last = last ∙ s.streams.last;
  headed = s.headed;
}

pub fails-settings : (c : Held) (r : Record) (pairs : List Pair) (streams : Book) (initial : ℕ) (fault : H2Fault) → Settled c r → early_of c (frames.Settings false pairs) ≡ None
    → list_any (is_too_large c.streams c.initial) pairs ≡ false → broken 17 (flood_code c.flood (frames.Settings false pairs)) ≡ Some fault → streams.last ≡ c.streams.last
    → Fails r (frames.Settings false pairs) fault (record c { streams = streams; initial = initial })
fails-settings c r pairs streams initial fault s early fits over last = record {
  breaks = breaks-late c r (frames.Settings false pairs) s early ∙ settings-late c r pairs false s fits ∙ ap (λ fault. option_or fault None) over;
  controls = s.controls;
  last = last ∙ s.streams.last;
  headed = s.headed;
}

-- a window begins with the initial size
sum-start : (r : Record) (id start : ℕ) → sum_in (with_increment id) start r ≡ start + sum_in (with_increment id) 0 r
sum-start [] id start = omega arith
sum-start (In (frames.Window stream add) ∷ r) id start = by (id == stream) (sum-start r id start)
  where
    by : (b : Bool) → sum_in (with_increment id) start r ≡ start + sum_in (with_increment id) 0 r
        → (if b then sum_in (with_increment id) start r + add else sum_in (with_increment id) start r) ≡ start + (if b then sum_in (with_increment id) 0 r + add else sum_in (with_increment id) 0 r)
    by true rest = omega (arith, rest)
    by false rest = rest
sum-start (x ∷ r) id start = sum-start r id start

abbrev with_send : ℤ → Stream → Stream
with_send by stream = record stream { send = stream.send +ℤ by }

found-shifted : (by : ℤ) (id : ℕ) (es : List (ℕ × Stream)) → lookup (nat_eq id) (map (shifted_by by) es) ≡ option_map (with_send by) (lookup (nat_eq id) es)
found-shifted by id [] = refl
found-shifted by id (e ∷ es) = choose (nat_eq id e.0) (found-shifted by id es)
  where
    choose : (b : Bool) → lookup (nat_eq id) (map (shifted_by by) es) ≡ option_map (with_send by) (lookup (nat_eq id) es)
        → cond b (Some (record e.1 { send = e.1.send +ℤ by })) (lookup (nat_eq id) (map (shifted_by by) es))
        ≡ option_map (with_send by) (cond b (Some e.1) (lookup (nat_eq id) es))
    choose true rest = refl
    choose false rest = rest

keys-shifted : (by : ℤ) (es : List (ℕ × Stream)) → keys_of (map (shifted_by by) es) ≡ keys_of es
keys-shifted by [] = refl
keys-shifted by (e ∷ es) = ap (λ keys. e.0 ∷ keys) (keys-shifted by es)

map-if : (f : Stream → Stream) (live : Bool) (entry : Stream) → option_map f (if live then Some entry else None) ≡ (if live then Some (f entry) else None)
map-if f true entry = refl
map-if f false entry = refl

module _ (c : Held) (r : Record) (pairs : List Pair) (initial : ℕ) (s : Settled c r) (is : initial ≡ initial_after c.initial pairs) where
  by : ℤ
  by = pos initial -ℤ pos c.initial

  send-shifted : (id : ℕ) → (send_window_of r id +ℤ by) ≡ send_window_of (In (frames.Settings false pairs) ∷ r) id
  unfolding by
  send-shifted id =
      let after : initial ≡ initial_after (initial_of r) pairs = is ∙ ap (λ n. initial_after n pairs) s.initial in
      let old = sum-start r id (initial_of r) in
      let new = sum-start r id (initial_after (initial_of r) pairs) in
      omega (arith, ints, after, old, new, s.initial)

  pub streams-shifted : (streams : Book) → streams ≡ shifted c.streams (pos initial -ℤ pos c.initial) → StreamsStand streams c.answers (In (frames.Settings false pairs) ∷ r)
  unfolding reset_by is_live_with by
  streams-shifted streams same = record {
    last = ap (λ (b : Book). b.last) same ∙ s.streams.last;
    remembered = ap (λ (b : Book). b.resets) same ∙ s.streams.remembered;
    found = λ id. ap (λ (b : Book). find b id) same ∙ found-shifted (pos initial -ℤ pos c.initial) id c.streams.live
        ∙ ap (option_map (with_send (pos initial -ℤ pos c.initial))) (s.streams.found id)
        ∙ map-if (with_send (pos initial -ℤ pos c.initial)) (is_live r id) (entry_of r id)
        ∙ (λ i. if is_live r id then Some (record (entry_of r id) { send = send-shifted id i }) else None);
    live = ap (λ (b : Book). keys_of b.live) same ∙ keys-shifted (pos initial -ℤ pos c.initial) c.streams.live ∙ s.streams.live;
    waits = λ id. waits-in r (frames.Settings false pairs) id (waiting_on c.answers id) (is_live r id) refl refl (s.streams.waits id);
    fresh = s.streams.fresh;
  }

  pub takes-settings : (streams : Book) (flood : ℕ) → early_of c (frames.Settings false pairs) ≡ None → list_any (is_too_large c.streams c.initial) pairs ≡ false
      → streams ≡ shifted c.streams (pos initial -ℤ pos c.initial) → flood_code c.flood (frames.Settings false pairs) ≡ None → flood ≡ c.flood + 1
      → Takes r (frames.Settings false pairs) None (record c { has_begun = true; streams = streams; initial = initial; control = c.control ++ control.SettingsAck ∷ []; flood = flood })
  unfolding reset_by is_live_with
  takes-settings streams flood early fits same within count =
      let frame = frames.Settings false pairs in
      let none = breaks-late c r frame s early ∙ settings-late c r pairs false s fits ∙ ap (λ code. option_or (broken 17 code) None) within in
      record {
        breaks = none;
        tells = refl;
        stands = record {
          sound = sound-in r frame s.sound none;
          begun = refl;
          window = s.window;
          initial = is ∙ ap (λ n. initial_after n pairs) s.initial;
          streams = streams-shifted streams same;
          block = s.block;
          table = s.table;
          controls = controls-in r frame c.control (control.SettingsAck ∷ []) s.sound none s.controls refl;
          owing = s.owing;
          keeping = λ id. s.keeping id ∙ sym (kept-in r frame id refl);
          flood = count-flood c r frame flood s count;
          headed = s.headed;
        };
      }
