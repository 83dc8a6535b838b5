-- What a frame on one stream leaves of a connection: RST_STREAM and WINDOW_UPDATE.
use Rattle.std.proofs.Common.{◌≡◌, ℕ, ◌+◌, ◌≤◌, ◌%◌, nat_eq, nat_lt, ◌==◌, Bool, true, false, not, ◌&&◌, List, [], ◌∷◌, ◌++◌, map, Option, None, Some, is_some, refl, sym, ap, subst, ◌∙◌, arith, append-nil, if◌then◌else◌}
use Rattle.hpack_blocks.specs.Answers.{Open}
use Rattle.h2_frames.specs.declared.frame.Frame.{Frame}
use Rattle.h2_frames.specs.declared.frame.Frame.TheVariants as frames
use Rattle.h2_streams.specs.declared.stream.Stream.{Stream}
use Rattle.h2_streams.specs.Book.{Book, find, without}
use Rattle.h2_answers.specs.Waiting.{Waiting, waiting_on, nothing, ChangesOnly}
use Rattle.h2_record.specs.declared.control.Control.{Control}
use Rattle.h2_record.specs.declared.event.Event.TheVariants as event
use Rattle.h2_record.specs.Record.{Record, In, any_in}
use Rattle.h2_record.specs.Windows.{connection_window_of}
use Rattle.h2_record.specs.Ids.{last_of}
use Rattle.h2_record.specs.Blocks.{open_of, table_of}
use Rattle.h2_record.specs.Live.{Reset, ends, is_idle_above, entry_of}
use Rattle.h2_record.specs.Resets.{reset_by, with_reset, resets_of, is_live, is_open}
use Rattle.h2_record.specs.Texts.{codes_on}
use Rattle.h2_record.specs.Faults.{fault_by, flood_code, flood_of}
use Rattle.h2_record.specs.Credits.{kept_of, owed_of}
use Rattle.h2_record.specs.Control.{answer_to, frame_of, written_control_of}
use Rattle.h2_conn.specs.KeptCredit.{kept_on, KeptOnly}
use Rattle.h2_conn.specs.Held.{Held}
use Rattle.h2_conn.specs.Stands.{StreamsStand, OpenStands}
use Rattle.h2_conn.specs.Waits.{WaitsBy, WaitsClosed}
use Rattle.h2_conn.specs.Taking.{Settled, early_of, Takes}
use Rattle.h2_record.specs.Settling.{settled_kept}
use Rattle.h2_record.specs.Early.{late_fault}
use Rattle.h2_record.proofs.BoolLemmas.{or-second, lt-false, by-test, same-eq}
use Rattle.h2_record.proofs.FaultLemmas.{reset-begun}
use Rattle.h2_conn.proofs.FloodLemmas.{sound-flood, count-flood}
use Rattle.h2_record.proofs.StepLemmas.{sound-in, controls-in, kept-in}
use Rattle.h2_conn.proofs.TouchLemmas.{TouchesOne, streams-touch}
use Rattle.h2_conn.proofs.CloseLemmas.{OnLive}
use Rattle.h2_conn.proofs.ShutLemmas.{OnShut, touch-shut}
use Rattle.h2_conn.proofs.ResetLemmas.{still-shut, cancel-shut, keep-touch, kept-shut, touch-cancel}

-- A connection that took a frame on one stream.
pub touch-stands : (c c' : Held) (r : Record) (frame : Frame) (id : ℕ) (x : Option Reset) (more : List Control) → Settled c r → fault_by r frame ≡ None
    → TouchesOne c.streams c'.streams c.answers c'.answers r frame id x → c'.has_begun ≡ true → c'.window ≡ connection_window_of (In frame ∷ r) → c'.initial ≡ c.initial
    → c'.block ≡ open_of (In frame ∷ r) → c'.decoder ≡ Open (table_of (In frame ∷ r)) → c'.control ≡ c.control ++ more → answer_to frame ≡ map frame_of more
    → c'.owed ≡ owed_of (In frame ∷ r) → KeptOnly c.kept c'.kept id (kept_of (In frame ∷ r) id) → c'.flood ≡ flood_of (In frame ∷ r) → c'.has_headed ≡ c.has_headed
    → OpenStands c' (In frame ∷ r)
touch-stands c c' r frame id x more s none t begun window initial block table control answer owed kept flood headed = record {
  sound = sound-in r frame s.sound none;
  begun = begun;
  window = window;
  initial = initial ∙ s.initial ∙ sym t.steady;
  streams = streams-touch c.streams c'.streams c.answers c'.answers r frame id x t s.streams;
  block = block;
  table = table;
  controls = ap (λ waiting. written_control_of r ++ map frame_of waiting) control ∙ controls-in r frame c.control more s.sound none s.controls answer;
  owing = owed;
  keeping = keep-touch r frame id x c.kept c'.kept t.made t.of t.on s.keeping kept;
  flood = flood;
  headed = headed ∙ s.headed;
}

-- credit that is kept as it was
pub kept-same : (r : Record) (frame : Frame) (id : ℕ) (kept : List (ℕ × ℕ)) → ((other : ℕ) → kept_on kept other ≡ settled_kept r other) → is_open (In frame ∷ r) id ≡ is_open r id
    → KeptOnly kept kept id (kept_of (In frame ∷ r) id)
kept-same r frame id kept settled same other = by-test (nat_eq id other)
    (λ here. settled other ∙ ap (settled_kept r) (sym (same-eq id other here)) ∙ sym (kept-in r frame id same) ∙ (λ i. if sym here i then kept_of (In frame ∷ r) id else kept_on kept other))
    (λ apart. (λ i. if sym apart i then kept_of (In frame ∷ r) id else kept_on kept other))

pub open-shut : (r : Record) (frame : Frame) (id : ℕ) → is_live r id ≡ false → is_live (In frame ∷ r) id ≡ false → is_open (In frame ∷ r) id ≡ is_open r id
open-shut r frame id shut still = (λ i. still i && not (any_in (ends id) (In frame ∷ r))) ∙ sym (λ i. shut i && not (any_in (ends id) r))

is-found : (b : Bool) (entry : Stream) → is_some (if b then Some entry else None) ≡ b
is-found true entry = refl
is-found false entry = refl

-- whether a stream is found
pub live-in : (streams : Book) (answers : List (ℕ × Waiting)) (r : Record) (id : ℕ) → StreamsStand streams answers r → is_some (find streams id) ≡ is_live r id
live-in streams answers r id s = ap is_some (s.found id) ∙ is-found (is_live r id) (entry_of r id)

pub live-found : (c : Held) (r : Record) (id : ℕ) → Settled c r → is_some (find c.streams id) ≡ is_live r id
live-found c r id s = ap is_some (s.streams.found id) ∙ is-found (is_live r id) (entry_of r id)

pub begun-within : (c : Held) (r : Record) (id : ℕ) → Settled c r → is_idle_above c.streams.last id ≡ false → id ≤ last_of r
begun-within c r id s begun = let within : id ≤ c.streams.last = lt-false c.streams.last id (or-second (id % 2 == 0) (nat_lt c.streams.last id) begun) in omega (arith, s.streams.last)

-- what waits on a closed stream stays
pub waits-shut : (streams : Book) (answers : List (ℕ × Waiting)) (r : Record) (frame : Frame) (id : ℕ) → StreamsStand streams answers r → is_live r id ≡ false → is_live (In frame ∷ r) id ≡ false
    → reset_by (resets_of r) r frame ≡ None → WaitsClosed (In frame ∷ r) id (waiting_on answers id)
waits-shut streams answers r frame id s shut still made =
    let w = subst (λ (b : Bool). WaitsBy b r id (waiting_on answers id)) shut (s.waits id) in
    record { text = w.text; resets = w.resets ∙ ap (λ resets. codes_on resets id) (ap (with_reset (resets_of r)) (sym made)) }

-- RST_STREAM on a closed stream
pub takes-reset-shut : (c : Held) (r : Record) (stream code flood : ℕ) → Settled c r → early_of c (frames.Reset stream code) ≡ None
    → flood_code c.flood (frames.Reset stream code) ≡ None → flood ≡ c.flood + 1 → is_some (find c.streams stream) ≡ false
    → Takes r (frames.Reset stream code) None (record c { has_begun = true; flood = flood })
unfolding late_fault reset_by
takes-reset-shut c r stream code flood s early within count lost =
    let frame = frames.Reset stream code in
    let none = sound-flood c r frame s early refl within in
    let shut = sym (live-found c r stream s) ∙ lost in
    let still = still-shut r frame stream None refl refl shut in
    let o : OnShut r frame stream None = record {
      shut = shut;
      still = still;
      made = refl;
      of = tt;
      on = λ other off. off;
      steady = refl;
      begun = refl;
      last = refl;
      within = begun-within c r stream s (reset-begun c.has_begun c.block c.streams.last stream code early);
    } in
    record {
      breaks = none;
      tells = ap (λ live. if live then Some (event.Reset stream code) else None) shut;
      stands = touch-stands c (record c { has_begun = true; flood = flood }) r frame stream None [] s none
          (touch-shut c.streams c.streams c.answers c.answers r frame stream None s.streams o refl refl s.streams.remembered
          (waits-shut c.streams c.answers r frame stream s.streams shut still refl) (λ other differ. refl))
          refl s.window refl s.block s.table (sym (append-nil c.control)) refl s.owing (kept-same r frame stream c.kept s.keeping (open-shut r frame stream shut still))
          (count-flood c r frame flood s count) refl;
    }

-- RST_STREAM on a live stream
pub takes-cancel : (c : Held) (r : Record) (stream code flood : ℕ) (streams : Book) (answers : List (ℕ × Waiting)) (kept : List (ℕ × ℕ)) → Settled c r → early_of c (frames.Reset stream code) ≡ None
    → flood_code c.flood (frames.Reset stream code) ≡ None → flood ≡ c.flood + 1 → is_some (find c.streams stream) ≡ true
    → streams ≡ without c.streams stream → ChangesOnly c.answers answers stream nothing → KeptOnly c.kept kept stream 0
    → Takes r (frames.Reset stream code) (Some (event.Reset stream code)) (record c { has_begun = true; flood = flood; streams = streams; answers = answers; kept = kept })
unfolding late_fault reset_by
takes-cancel c r stream code flood streams answers kept s early within count found closed dropped keeps =
    let frame = frames.Reset stream code in
    let none = sound-flood c r frame s early refl within in
    let live = sym (live-found c r stream s) ∙ found in
    let shut = cancel-shut r stream code in
    let o : OnLive r frame stream None = record { live = live; made = refl; of = tt; on = λ other off. off; steady = refl; begun = refl; last = refl } in
    record {
      breaks = none;
      tells = ap (λ live. if live then Some (event.Reset stream code) else None) live;
      stands = touch-stands c (record c { has_begun = true; flood = flood; streams = streams; answers = answers; kept = kept }) r frame stream None [] s none
          (touch-cancel c.streams streams c.answers answers r frame stream s.streams shut o closed dropped)
          refl s.window refl s.block s.table (sym (append-nil c.control)) refl s.owing
          (subst (λ (sum : ℕ). KeptOnly c.kept kept stream sum) (sym (kept-shut r frame stream shut)) keeps) (count-flood c r frame flood s count) refl;
    }
