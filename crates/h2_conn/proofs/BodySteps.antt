-- What DATA leave of a connection.
use Rattle.std.proofs.Common.{◌≡◌, ℕ, ◌+◌, ◌%◌, ◌==◌, nat_lt, Bool, true, false, not, ◌&&◌, ◌||◌, List, [], ◌∷◌, ◌++◌, map, Option, None, Some, IfSome, pos, ◌-ℤ◌, refl, sym, ap, subst, ◌∙◌, arith, if◌then◌else◌}
use Rattle.std.proofs.lemmas.Int.{ints}
use Rattle.hpack_blocks.specs.Answers.{Standing, Open}
use Rattle.h2_frames.specs.declared.frame.Frame.{Frame}
use Rattle.h2_frames.specs.declared.frame.Frame.TheVariants as frames
use Rattle.h2_streams.specs.declared.stream.Stream.{Stream}
use Rattle.h2_streams.specs.declared.stream.StreamState.TheVariants as is
use Rattle.h2_streams.specs.Book.{Book, find}
use Rattle.h2_answers.specs.Replies.{drop_bytes}
use Rattle.h2_answers.specs.Waiting.{Waiting, waiting_on, with_reset as also_reset, ChangesOnly}
use Rattle.h2_record.specs.declared.block.OpenBlock.{OpenBlock}
use Rattle.h2_record.specs.declared.block.OwedCredit.{OwedCredit}
use Rattle.h2_record.specs.declared.control.Control.TheVariants as control
use Rattle.h2_record.specs.declared.event.Event.TheVariants as event
use Rattle.h2_record.specs.Record.{Record, In, any_in, any_out, sum_in, sum_out}
use Rattle.h2_record.specs.Windows.{connection_window_of, receive_window_of, with_increment, with_payload, first_window, data_out}
use Rattle.h2_record.specs.Ids.{last_of}
use Rattle.h2_record.specs.Blocks.{open_of, table_of}
use Rattle.h2_record.specs.Live.{Reset, opens, ends, finishes, cancels, is_reset, is_live_with, entry_of, is_idle_above}
use Rattle.h2_record.specs.Resets.{reset_by, with_reset, resets_of, is_live, is_open, state_of}
use Rattle.h2_record.specs.Refusals.{body_refusal, first_reset}
use Rattle.h2_record.specs.Faults.{flood_code}
use Rattle.h2_record.specs.Replies.{replies_of}
use Rattle.h2_record.specs.Credits.{kept_of, owed_of}
use Rattle.h2_record.specs.Control.{answer_to, frame_of}
use Rattle.h2_record.specs.Events.{event_by}
use Rattle.h2_conn.specs.KeptCredit.{KeptOnly}
use Rattle.h2_conn.specs.Payload.{paid, Pays}
use Rattle.h2_conn.specs.Held.{Held}
use Rattle.h2_conn.specs.Stands.{OpenStands}
use Rattle.h2_conn.specs.Counting.{Counted, CountedBody, payload_credit, owed_if}
use Rattle.h2_conn.specs.Taking.{Settled, early_of, Takes, Refuses}
use Rattle.h2_record.specs.Settling.{settled_kept}
use Rattle.h2_record.specs.Early.{late_fault}
use Rattle.h2_record.proofs.BoolLemmas.{and-true-or-false, same-self, or-second, and-false, lt-false}
use Rattle.h2_record.proofs.OptionLemmas.{or-nothing}
use Rattle.h2_conn.proofs.FloodLemmas.{sound-flood, count-flood}
use Rattle.h2_record.proofs.StepLemmas.{sound-in, controls-in}
use Rattle.h2_conn.proofs.TouchLemmas.{TouchesOne, streams-touch}
use Rattle.h2_record.proofs.ApartLemmas.{IsOf}
use Rattle.h2_conn.proofs.CloseLemmas.{OnLive, touch-keep, found-some}
use Rattle.h2_conn.proofs.ShutLemmas.{OnShut, touch-shut}
use Rattle.h2_conn.proofs.ResetLemmas.{still-shut, reset-shut, keep-touch, kept-shut, touch-reset, waits-live, waits-elsewhere, waits-late}
use Rattle.h2_conn.proofs.StreamSteps.{kept-same, open-shut, waits-shut}
use Rattle.h2_conn.proofs.StateLemmas.{state-live, state-closed}
use Rattle.h2_conn.proofs.WindowSteps.{lt-yes-int, lt-no-int}

-- A counted connection that has seen to the frame's stream.
pub counted-stands : (c : Held) (r : Record) (frame : Frame) (id : ℕ) (x : Option Reset) (streams : Book) (answers : List (ℕ × Waiting)) (kept : List (ℕ × ℕ)) (owed : Option OwedCredit) (block : Option OpenBlock) (decoder : Standing)
    → Counted c r frame → TouchesOne c.streams streams c.answers answers r frame id x → connection_window_of (In frame ∷ r) ≡ connection_window_of r
    → block ≡ open_of (In frame ∷ r) → decoder ≡ Open (table_of (In frame ∷ r)) → owed ≡ owed_of (In frame ∷ r) → KeptOnly c.kept kept id (kept_of (In frame ∷ r) id)
    → OpenStands (record c { streams = streams; answers = answers; kept = kept; owed = owed; block = block; decoder = decoder }) (In frame ∷ r)
counted-stands c r frame id x streams answers kept owed block decoder s t window opened table owing keeps = record {
  sound = sound-in r frame s.sound s.breaks;
  begun = s.begun;
  window = s.window ∙ sym window;
  initial = s.initial ∙ sym t.steady;
  streams = streams-touch c.streams streams c.answers answers r frame id x t s.streams;
  block = opened;
  table = table;
  controls = s.controls;
  owing = owing;
  keeping = keep-touch r frame id x c.kept kept t.made t.of t.on s.keeping keeps;
  flood = s.flood;
  headed = s.headed;
}

-- the connection's credit
payload-answer : (stream counted : ℕ) (end : Bool) (bytes : List ℕ) → answer_to (frames.Body stream end bytes counted) ≡ map frame_of (payload_credit counted)
payload-answer stream counted end bytes = by (counted == 0)
  where
    by : (b : Bool) → (if b then [] else frames.Window 0 counted ∷ []) ≡ map frame_of (if b then [] else control.Credit 0 counted ∷ [])
    by true = refl
    by false = refl

pub counts-body : (c : Held) (r : Record) (stream counted flood : ℕ) (end : Bool) (bytes : List ℕ) → Settled c r → early_of c (frames.Body stream end bytes counted) ≡ None
    → flood_code c.flood (frames.Body stream end bytes counted) ≡ None → flood ≡ (if counted == 0 && not end then c.flood + 1 else c.flood)
    → CountedBody (record c { has_begun = true; flood = flood; control = c.control ++ payload_credit counted }) r (frames.Body stream end bytes counted)
unfolding late_fault
counts-body c r stream counted flood end bytes s early within count =
    let frame = frames.Body stream end bytes counted in
    let none = sound-flood c r frame s early refl within in
    record {
      counted = record {
        sound = s.sound;
        breaks = none;
        begun = refl;
        window = s.window;
        initial = s.initial;
        streams = s.streams;
        controls = controls-in r frame c.control (payload_credit counted) s.sound none s.controls (payload-answer stream counted end bytes);
        keeping = s.keeping;
        flood = count-flood c r frame flood s count;
        headed = s.headed;
      };
      owing = s.owing;
      block = s.block;
      table = s.table;
    }

-- DATA on a closed stream owe it nothing
owed-shut : (r : Record) (stream counted : ℕ) (end : Bool) (bytes : List ℕ) → is_live (In (frames.Body stream end bytes counted) ∷ r) stream ≡ false
    → owed_of (In (frames.Body stream end bytes counted) ∷ r) ≡ None
owed-shut r stream counted true bytes shut = refl
owed-shut r stream counted false bytes shut =
    λ i. if (shut i && not (any_in (ends stream) r)) && not (counted == 0) then Some (record { stream = stream; bytes = counted }) else None

module _ (r : Record) (stream counted : ℕ) (end : Bool) (bytes : List ℕ) where
  -- what DATA on an id of this state make due
  pub made-body : reset_by (resets_of r) r (frames.Body stream end bytes counted) ≡ body_refusal (receive_window_of r stream) stream counted (state_of r stream)
  unfolding reset_by
  made-body = or-nothing (body_refusal (receive_window_of r stream) stream counted (state_of r stream))

  on-body : (x : Option Reset) → is_live r stream ≡ true → reset_by (resets_of r) r (frames.Body stream end bytes counted) ≡ x → IsOf x stream → OnLive r (frames.Body stream end bytes counted) stream x
  on-body x live made of = record { live = live; made = made; of = of; on = λ other off. off; steady = refl; begun = refl; last = refl }

  -- a live stream is reset
  pub takes-body-reset : (c c' : Held) (code : ℕ) → CountedBody c r (frames.Body stream end bytes counted) → is_live r stream ≡ true
      → body_refusal (receive_window_of r stream) stream counted (state_of r stream) ≡ first_reset stream code → Refuses c stream code c'
      → Takes r (frames.Body stream end bytes counted) (Some (event.Reset stream code)) c'
  takes-body-reset c c' code b live refused refuses =
      let frame = frames.Body stream end bytes counted in
      let s = b.counted in
      let reset : Reset = record { stream = stream; code = code; is_first = true } in
      let made = made-body ∙ refused in
      let shut = reset-shut r frame stream code true made in
      let after : Held = record c { streams = c'.streams; kept = c'.kept; answers = c'.answers } in
      subst (λ (h : Held). Takes r frame (Some (event.Reset stream code)) h) (sym refuses.rest) (record {
        breaks = s.breaks;
        tells = ap (event_by r frame) made ∙ (λ i. if live i && true then Some (event.Reset stream code) else None);
        stands = counted-stands c r frame stream (Some reset) c'.streams c'.answers c'.kept c.owed c.block c.decoder s
            (touch-reset c.streams c'.streams c.answers c'.answers r frame stream s.streams code (on-body (Some reset) live made refl) refuses.streams refuses.answers)
            refl b.block b.table (b.owing ∙ sym (owed-shut r stream counted end bytes shut)) (subst (λ (sum : ℕ). KeptOnly c.kept c'.kept stream sum) (sym (kept-shut r frame stream shut)) refuses.kept);
      })

  -- DATA on a closed stream: the reset that they make due waits, or none is due
  shut-body : (x : Option Reset) → is_live r stream ≡ false → is_idle_above (last_of r) stream ≡ false → reset_by (resets_of r) r (frames.Body stream end bytes counted) ≡ x → IsOf x stream
      → OnShut r (frames.Body stream end bytes counted) stream x
  shut-body x shut begun made of = record {
    shut = shut;
    still = still-shut r (frames.Body stream end bytes counted) stream x made refl shut;
    made = made;
    of = of;
    on = λ other off. off;
    steady = refl;
    begun = refl;
    last = refl;
    within = lt-false (last_of r) stream (or-second (stream % 2 == 0) (nat_lt (last_of r) stream) begun);
  }

  pub takes-body-passed : (c : Held) → CountedBody c r (frames.Body stream end bytes counted) → state_of r stream ≡ is.Closed true → Takes r (frames.Body stream end bytes counted) None c
  takes-body-passed c b state =
      let frame = frames.Body stream end bytes counted in
      let s = b.counted in
      let closed = state-closed r stream true state in
      let made = made-body ∙ ap (body_refusal (receive_window_of r stream) stream counted) state in
      let o = shut-body None closed.0 closed.1 made tt in
      record {
        breaks = s.breaks;
        tells = ap (event_by r frame) made ∙ (λ i. if closed.0 i then Some (event.Body stream bytes end) else None);
        stands = counted-stands c r frame stream None c.streams c.answers c.kept c.owed c.block c.decoder s
            (touch-shut c.streams c.streams c.answers c.answers r frame stream None s.streams o refl refl s.streams.remembered
            (waits-shut c.streams c.answers r frame stream s.streams closed.0 o.still made) (λ other differ. refl))
            refl b.block b.table (b.owing ∙ sym (owed-shut r stream counted end bytes o.still)) (kept-same r frame stream c.kept s.keeping (open-shut r frame stream closed.0 o.still));
      }

  pub takes-body-late : (c : Held) (answers : List (ℕ × Waiting)) → CountedBody c r (frames.Body stream end bytes counted) → state_of r stream ≡ is.Closed false
      → ChangesOnly c.answers answers stream (also_reset (waiting_on c.answers stream) 5) → Takes r (frames.Body stream end bytes counted) None (record c { answers = answers })
  takes-body-late c answers b state only =
      let frame = frames.Body stream end bytes counted in
      let s = b.counted in
      let closed = state-closed r stream false state in
      let reset : Reset = record { stream = stream; code = 5; is_first = false } in
      let made = made-body ∙ ap (body_refusal (receive_window_of r stream) stream counted) state in
      let o = shut-body (Some reset) closed.0 closed.1 made refl in
      record {
        breaks = s.breaks;
        tells = ap (event_by r frame) made ∙ (λ i. if closed.0 i && true then Some (event.Reset stream 5) else None);
        stands = counted-stands c r frame stream (Some reset) c.streams answers c.kept c.owed c.block c.decoder s
            (touch-shut c.streams c.streams c.answers answers r frame stream (Some reset) s.streams o refl refl s.streams.remembered
            (waits-late c.streams c.answers answers r frame stream 5 s.streams closed.0 made only) (waits-elsewhere c.answers answers stream (also_reset (waiting_on c.answers stream) 5) only))
            refl b.block b.table (b.owing ∙ sym (owed-shut r stream counted end bytes o.still)) (kept-same r frame stream c.kept s.keeping (open-shut r frame stream closed.0 o.still));
      }

  -- DATA that a live stream takes
  still-open : reset_by (resets_of r) r (frames.Body stream end bytes counted) ≡ None → is_live r stream ≡ true → any_out (finishes stream) r ≡ false → is_live (In (frames.Body stream end bytes counted) ∷ r) stream ≡ true
  unfolding is_live_with
  still-open made live going =
      let o = any_in (opens stream) r && not (0 == stream) in
      let c = not (any_in (cancels stream) r) in
      let e = ends stream (frames.Body stream end bytes counted) || any_in (ends stream) r in
      (λ i. o && not (is_reset (with_reset (resets_of r) (made i)) stream) && c && not (e && any_out (finishes stream) r))
      ∙ (λ i. o && not (is_reset (resets_of r) stream) && c && not (e && going i))
      ∙ (λ i. o && not (is_reset (resets_of r) stream) && c && not (and-false e i))
      ∙ sym (λ i. o && not (is_reset (resets_of r) stream) && c && not (and-false (any_in (ends stream) r) i))
      ∙ sym (λ i. o && not (is_reset (resets_of r) stream) && c && not (any_in (ends stream) r && going i))
      ∙ live

  ends-now : any_in (ends stream) r ≡ false → (ends stream (frames.Body stream end bytes counted) || any_in (ends stream) r) ≡ end
  ends-now going = (λ i. (end && same-self stream i) || going i) ∙ and-true-or-false end

  paid-entry : any_in (ends stream) r ≡ false → paid (entry_of r stream) end counted ≡ entry_of (In (frames.Body stream end bytes counted) ∷ r) stream
  paid-entry going =
      let sum = sum_in (with_payload stream) 0 r in
      let out = sum_out (with_increment stream) first_window r in
      let receive : (receive_window_of r stream -ℤ pos counted) ≡ (pos out -ℤ pos (if stream == stream then sum + counted else sum)) =
      (let less : (receive_window_of r stream -ℤ pos counted) ≡ (pos out -ℤ pos (sum + counted)) = omega (arith, ints) in less ∙ sym (λ i. pos out -ℤ pos (if same-self stream i then sum + counted else sum))) in
      λ i. record (entry_of r stream) { receive = receive i; ended = sym (ends-now going) i }

  pub takes-body : (c : Held) (streams : Book) (kept : List (ℕ × ℕ)) (owed : Option OwedCredit) → CountedBody c r (frames.Body stream end bytes counted) → state_of r stream ≡ is.Live
      → IfSome (find c.streams stream) (Pays c.streams stream end counted true streams)
      → owed ≡ owed_of (In (frames.Body stream end bytes counted) ∷ r) → KeptOnly c.kept kept stream (kept_of (In (frames.Body stream end bytes counted) ∷ r) stream)
      → Takes r (frames.Body stream end bytes counted) (Some (event.Body stream bytes end)) (record c { streams = streams; kept = kept; owed = owed })
  takes-body c streams kept owed b state pays owing keeps =
      let frame = frames.Body stream end bytes counted in
      let s = b.counted in
      let live = state-live r stream state in
      let paid_stream = paid (entry_of r stream) end counted in
      let pay = subst (λ (o : Option Stream). IfSome o (Pays c.streams stream end counted true streams)) (s.streams.found stream ∙ found-some (is_live r stream) (entry_of r stream) live.0) pays in
      let waits = waits-live c.streams c.answers r stream s.streams live.0 in
      let going = waits.unfinished live.1 in
      let is = pay.1 going in
      let made = made-body ∙ ap (body_refusal (receive_window_of r stream) stream counted) state
      ∙ (λ i. if lt-no-int (receive_window_of r stream) (pos counted) pay.0 i then first_reset stream 3 else None) in
      let open_still = still-open made live.0 going in
      record {
        breaks = s.breaks;
        tells = ap (event_by r frame) made ∙ (λ i. if live.0 i then Some (event.Body stream bytes end) else None);
        stands = counted-stands c r frame stream None streams c.answers kept owed c.block c.decoder s
            (touch-keep c.streams streams c.answers c.answers r frame stream None s.streams (on-body None live.0 made tt) paid_stream open_still
            (ap (λ (b : Book). b.live) is) (ap (λ (b : Book). b.last) is) (ap (λ (b : Book). b.resets) is ∙ s.streams.remembered) (paid-entry live.1)
            (record {
              unreset = waits.unreset;
              unfinished = λ _. going;
              text = waits.text;
              replies = waits.replies ∙ (λ i. if (live.0 ∙ sym open_still) i then drop_bytes (data_out r stream) (replies_of r stream) else []);
            })
            (λ other differ. refl))
            refl b.block b.table owing keeps;
      }

  -- the credit that they are owed, and what is kept
  open-now : (is_live (In (frames.Body stream end bytes counted) ∷ r) stream ≡ true) → any_in (ends stream) r ≡ false → is_open (In (frames.Body stream end bytes counted) ∷ r) stream ≡ not end
  open-now live going = λ i. live i && not (ends-now going i)

  made-none : (c : Held) (streams : Book) → CountedBody c r (frames.Body stream end bytes counted) → is_live r stream ≡ true → state_of r stream ≡ is.Live
      → IfSome (find c.streams stream) (Pays c.streams stream end counted true streams) → reset_by (resets_of r) r (frames.Body stream end bytes counted) ≡ None
  made-none c streams b live state pays =
      let pay = subst (λ (o : Option Stream). IfSome o (Pays c.streams stream end counted true streams)) (b.counted.streams.found stream ∙ found-some (is_live r stream) (entry_of r stream) live) pays in
      made-body ∙ ap (body_refusal (receive_window_of r stream) stream counted) state
      ∙ (λ i. if lt-no-int (receive_window_of r stream) (pos counted) pay.0 i then first_reset stream 3 else None)

  owed-ended : end ≡ true → owed_of (In (frames.Body stream end bytes counted) ∷ r) ≡ None
  owed-ended last = ap (λ (e : Bool). owed_of (In (frames.Body stream e bytes counted) ∷ r)) last

  -- DATA that end the stream
  pub takes-body-ended : (c : Held) (streams : Book) (kept : List (ℕ × ℕ)) → CountedBody c r (frames.Body stream end bytes counted) → state_of r stream ≡ is.Live → end ≡ true
      → IfSome (find c.streams stream) (Pays c.streams stream end counted true streams) → KeptOnly c.kept kept stream 0
      → Takes r (frames.Body stream end bytes counted) (Some (event.Body stream bytes end)) (record c { streams = streams; kept = kept })
  takes-body-ended c streams kept b state last pays keeps =
      let live = state-live r stream state in
      let closes : is_open (In (frames.Body stream end bytes counted) ∷ r) stream ≡ false =
      (λ i. is_live (In (frames.Body stream end bytes counted) ∷ r) stream && not (ends-now live.1 i)) ∙ (λ i. is_live (In (frames.Body stream end bytes counted) ∷ r) stream && not (last i))
      ∙ and-false (is_live (In (frames.Body stream end bytes counted) ∷ r) stream) in
      takes-body c streams kept c.owed b state pays (b.owing ∙ sym (owed-ended last))
      (subst (λ (sum : ℕ). KeptOnly c.kept kept stream sum) (sym (λ i. if closes i then settled_kept r stream else 0)) keeps)

  owed-going : end ≡ false → is_open (In (frames.Body stream end bytes counted) ∷ r) stream ≡ true → owed_if stream counted ≡ owed_of (In (frames.Body stream end bytes counted) ∷ r)
  owed-going more opened =
      flip (counted == 0)
      ∙ (λ i. if sym opened i && not (counted == 0) then Some (record { stream = stream; bytes = counted }) else None)
      ∙ ap (λ (e : Bool). if is_open (In (frames.Body stream e bytes counted) ∷ r) stream && not (counted == 0) then Some (record { stream = stream; bytes = counted }) else None) more
      ∙ sym (ap (λ (e : Bool). owed_of (In (frames.Body stream e bytes counted) ∷ r)) more)
    where
      flip : (b : Bool) → ◌≡◌ {A = Option OwedCredit} (if b then None else Some (record { stream = stream; bytes = counted })) (if not b then Some (record { stream = stream; bytes = counted }) else None)
      flip true = refl
      flip false = refl

  -- DATA that don't
  pub takes-body-going : (c : Held) (streams : Book) → CountedBody c r (frames.Body stream end bytes counted) → state_of r stream ≡ is.Live → end ≡ false
      → IfSome (find c.streams stream) (Pays c.streams stream end counted true streams)
      → Takes r (frames.Body stream end bytes counted) (Some (event.Body stream bytes end)) (record c { streams = streams; owed = owed_if stream counted })
  takes-body-going c streams b state more pays =
      let s = b.counted in
      let live = state-live r stream state in
      let waits = waits-live c.streams c.answers r stream s.streams live.0 in
      let made = made-none c streams b live.0 state pays in
      let still = still-open made live.0 (waits.unfinished live.1) in
      let opened : is_open (In (frames.Body stream end bytes counted) ∷ r) stream ≡ true = open-now still live.1 ∙ (λ i. not (more i)) in
      takes-body c streams c.kept (owed_if stream counted) b state pays (owed-going more opened)
      (kept-same r (frames.Body stream end bytes counted) stream c.kept s.keeping (opened ∙ sym (λ i. live.0 i && not (live.1 i))))

  -- more than the window has
  pub takes-body-over : (c c' : Held) (streams : Book) → CountedBody c r (frames.Body stream end bytes counted) → state_of r stream ≡ is.Live
      → IfSome (find c.streams stream) (Pays c.streams stream end counted false streams) → Refuses (record c { streams = streams }) stream 3 c'
      → Takes r (frames.Body stream end bytes counted) (Some (event.Reset stream 3)) c'
  takes-body-over c c' streams b state pays refuses =
      let live = state-live r stream state in
      let pay = subst (λ (o : Option Stream). IfSome o (Pays c.streams stream end counted false streams)) (b.counted.streams.found stream ∙ found-some (is_live r stream) (entry_of r stream) live.0) pays in
      takes-body-reset c c' 3 b live.0
      (ap (body_refusal (receive_window_of r stream) stream counted) state ∙ (λ i. if lt-yes-int (receive_window_of r stream) (pos counted) pay.0 i then first_reset stream 3 else None))
      (subst (λ (book : Book). Refuses (record c { streams = book }) stream 3 c') pay.1 refuses)
