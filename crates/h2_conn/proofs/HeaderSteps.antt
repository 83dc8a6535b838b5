-- What HEADERS on a stream that was begun leave of a connection.
use Rattle.std.proofs.Common.{◌≡◌, ℕ, ◌%◌, ◌≤◌, ◌==◌, nat_lt, Bool, true, false, not, ◌&&◌, ◌||◌, List, [], ◌∷◌, ◌++◌, length, Option, None, Some, IfSome, refl, sym, ap, subst, ◌∙◌, if◌then◌else◌}
use Rattle.std.specs.Option.{option_or}
use Rattle.h2_frames.specs.declared.frame.Frame.TheVariants as frames
use Rattle.h2_streams.specs.declared.stream.Stream.{Stream}
use Rattle.h2_streams.specs.declared.stream.StreamState.{StreamState}
use Rattle.h2_streams.specs.declared.stream.StreamState.TheVariants as is
use Rattle.h2_streams.specs.Book.{Book, find, with_stream}
use Rattle.h2_answers.specs.Replies.{drop_bytes}
use Rattle.h2_answers.specs.Waiting.{Waiting, waiting_on, with_reset as also_reset, ChangesOnly}
use Rattle.h2_record.specs.declared.event.Event.TheVariants as event
use Rattle.h2_conn.specs.declared.whole_block.BlockTold.{BlockTold}
use Rattle.h2_conn.specs.declared.whole_block.BlockTold.TheVariants as heard
use Rattle.h2_record.specs.Record.{Record, In, any_in, any_out}
use Rattle.h2_record.specs.Windows.{data_out}
use Rattle.h2_record.specs.Ids.{last_of, begun_of}
use Rattle.h2_record.specs.Blocks.{whole_block}
use Rattle.h2_record.specs.Live.{Reset, opens, ends, finishes, cancels, is_reset, is_live_with, entry_of, is_idle_above}
use Rattle.h2_record.specs.Resets.{reset_by, with_reset, resets_of, is_live, state_of, live_of}
use Rattle.h2_record.specs.Refusals.{headers_refusal, malformed_block, is_served_state, first_reset}
use Rattle.h2_record.specs.Replies.{replies_of}
use Rattle.h2_record.specs.Credits.{kept_of}
use Rattle.h2_record.specs.Events.{event_by, whole_event, is_request}
use Rattle.h2_conn.specs.KeptCredit.{kept_on, KeptOnly}
use Rattle.h2_conn.specs.Trailing.{EndsTo}
use Rattle.h2_conn.specs.Held.{Held}
use Rattle.h2_conn.specs.Counting.{CountedBlock}
use Rattle.h2_record.specs.Settling.{settled_kept}
use Rattle.h2_conn.specs.Taking.{Takes, Refuses}
use Rattle.h2_conn.specs.WholeBlock.{Tells}
use Rattle.h2_record.proofs.BoolLemmas.{and-true-or-false, same-self, or-second, and-false, lt-false, lt-no}
use Rattle.h2_record.proofs.ApartLemmas.{IsOf}
use Rattle.h2_conn.proofs.CloseLemmas.{OnLive, touch-keep, found-some}
use Rattle.h2_record.proofs.LiveLaws.{live-within, live-opened}
use Rattle.h2_conn.proofs.ShutLemmas.{OnShut, touch-shut}
use Rattle.h2_conn.proofs.ResetLemmas.{reset-shut, kept-shut, touch-reset, waits-live, waits-elsewhere, waits-late, remembered-reset, reset-closed}
use Rattle.h2_conn.proofs.StreamSteps.{kept-same, open-shut, waits-shut}
use Rattle.h2_conn.proofs.StateLemmas.{state-live, state-ended, state-closed}
use Rattle.h2_conn.proofs.BodySteps.{counted-stands}
use Rattle.h2_conn.proofs.WholeBlockLemmas.{told, IsFine, fine-reset, fine-event, bad-reset, headers-stream, no-request}

module _ (r : Record) (stream : ℕ) (ended whole : Bool) (fragment : List ℕ) where
  -- what HEADERS on an id of this state make due
  pub made-headers : (state : StreamState) → state_of r stream ≡ state → reset_by (resets_of r) r (frames.Headers stream ended whole fragment)
      ≡ option_or (headers_refusal (length (live_of r)) stream state) (if is_served_state state then malformed_block r (whole_block r (frames.Headers stream ended whole fragment)) else None)
  unfolding reset_by
  made-headers state same = λ i. option_or (headers_refusal (length (live_of r)) stream (same i)) (if is_served_state (same i) then malformed_block r (whole_block r (frames.Headers stream ended whole fragment)) else None)

  begun-same : stream ≤ last_of r → begun_of (In (frames.Headers stream ended whole fragment) ∷ r) ≡ begun_of r
  begun-same within = λ i. if lt-no (last_of r) stream within i then begun_of r ++ stream ∷ [] else begun_of r

  last-same : stream ≤ last_of r → last_of (In (frames.Headers stream ended whole fragment) ∷ r) ≡ last_of r
  last-same within = λ i. if lt-no (last_of r) stream within i then stream else last_of r

  on-headers : (x : Option Reset) → is_live r stream ≡ true → reset_by (resets_of r) r (frames.Headers stream ended whole fragment) ≡ x → IsOf x stream → OnLive r (frames.Headers stream ended whole fragment) stream x
  on-headers x live made of = let within = live-within r stream live in
      record { live = live; made = made; of = of; on = λ other off. off; steady = refl; begun = begun-same within; last = last-same within }

  -- a live stream is reset
  pub takes-headers-reset : (c c' : Held) (code : ℕ) → CountedBlock c r (frames.Headers stream ended whole fragment) → is_live r stream ≡ true
      → reset_by (resets_of r) r (frames.Headers stream ended whole fragment) ≡ first_reset stream code → Refuses c stream code c'
      → Takes r (frames.Headers stream ended whole fragment) (Some (event.Reset stream code)) c'
  takes-headers-reset c c' code b live made refuses =
      let frame = frames.Headers stream ended whole fragment in
      let s = b.counted in
      let reset : Reset = record { stream = stream; code = code; is_first = true } in
      let shut = reset-shut r frame stream code true made in
      let late = no-request r stream ended whole fragment (lt-no (last_of r) stream (live-within r stream live)) in
      let after : Held = record c { streams = c'.streams; kept = c'.kept; answers = c'.answers } in
      subst (λ (h : Held). Takes r frame (Some (event.Reset stream code)) h) (sym refuses.rest) (record {
        breaks = s.breaks;
        tells = ap (event_by r frame) made ∙ (λ i. if live i && not (late i) then Some (event.Reset stream code) else None);
        stands = counted-stands c r frame stream (Some reset) c'.streams c'.answers c'.kept c.owed c.block c.decoder s
            (touch-reset c.streams c'.streams c.answers c'.answers r frame stream s.streams code (on-headers (Some reset) live made refl) refuses.streams refuses.answers)
            refl b.block b.table b.owing (subst (λ (sum : ℕ). KeptOnly c.kept c'.kept stream sum) (sym (kept-shut r frame stream shut)) refuses.kept);
      })

  pub takes-headers-ended : (c c' : Held) → CountedBlock c r (frames.Headers stream ended whole fragment) → state_of r stream ≡ is.Ended → Refuses c stream 5 c'
      → Takes r (frames.Headers stream ended whole fragment) (Some (event.Reset stream 5)) c'
  takes-headers-ended c c' b state refuses = takes-headers-reset c c' 5 b (state-ended r stream state).0 (made-headers is.Ended state) refuses

  pub takes-headers-malformed : (c c' : Held) → CountedBlock c r (frames.Headers stream ended whole fragment) → state_of r stream ≡ is.Live
      → Tells r (frames.Headers stream ended whole fragment) (Some heard.Malformed) → Refuses c stream 1 c' → Takes r (frames.Headers stream ended whole fragment) (Some (event.Reset stream 1)) c'
  takes-headers-malformed c c' b state tells refuses =
      let frame = frames.Headers stream ended whole fragment in
      takes-headers-reset c c' 1 b (state-live r stream state).0
      (made-headers is.Live state ∙ bad-reset r frame tells ∙ ap (λ n. first_reset n 1) (headers-stream r stream ended whole fragment tells.0 tells.1)) refuses

  -- on a closed stream
  shut-headers : (x : Option Reset) → is_live r stream ≡ false → is_idle_above (last_of r) stream ≡ false → reset_by (resets_of r) r (frames.Headers stream ended whole fragment) ≡ x → IsOf x stream
      → is_live (In (frames.Headers stream ended whole fragment) ∷ r) stream ≡ false → OnShut r (frames.Headers stream ended whole fragment) stream x
  shut-headers x shut begun made of still =
      let within = lt-false (last_of r) stream (or-second (stream % 2 == 0) (nat_lt (last_of r) stream) begun) in
      record { shut = shut; still = still; made = made; of = of; on = λ other off. off; steady = refl; begun = begun-same within; last = last-same within; within = within }

  pub takes-headers-passed : (c : Held) → CountedBlock c r (frames.Headers stream ended whole fragment) → state_of r stream ≡ is.Closed true → Takes r (frames.Headers stream ended whole fragment) None c
  takes-headers-passed c b state =
      let frame = frames.Headers stream ended whole fragment in
      let s = b.counted in
      let closed = state-closed r stream true state in
      let made = made-headers (is.Closed true) state in
      let still = reset-closed r frame stream (remembered-reset (resets_of r) stream closed.2) made in
      let o = shut-headers None closed.0 closed.1 made tt still in
      record {
        breaks = s.breaks;
        tells = ap (event_by r frame) made ∙ (λ i. if is_served_state (state i) then whole_event r (whole_block r frame) else None);
        stands = counted-stands c r frame stream None c.streams c.answers c.kept c.owed c.block c.decoder s
            (touch-shut c.streams c.streams c.answers c.answers r frame stream None s.streams o refl refl s.streams.remembered
            (waits-shut c.streams c.answers r frame stream s.streams closed.0 still made) (λ other differ. refl))
            refl b.block b.table b.owing (kept-same r frame stream c.kept s.keeping (open-shut r frame stream closed.0 still));
      }

  pub takes-headers-late : (c : Held) (answers : List (ℕ × Waiting)) → CountedBlock c r (frames.Headers stream ended whole fragment) → state_of r stream ≡ is.Closed false
      → ChangesOnly c.answers answers stream (also_reset (waiting_on c.answers stream) 5) → Takes r (frames.Headers stream ended whole fragment) None (record c { answers = answers })
  takes-headers-late c answers b state only =
      let frame = frames.Headers stream ended whole fragment in
      let s = b.counted in
      let closed = state-closed r stream false state in
      let reset : Reset = record { stream = stream; code = 5; is_first = false } in
      let made = made-headers (is.Closed false) state in
      let still = reset-shut r frame stream 5 false made in
      let o = shut-headers (Some reset) closed.0 closed.1 made refl still in
      record {
        breaks = s.breaks;
        tells = ap (event_by r frame) made ∙ (λ i. if closed.0 i && not (is_request (whole_block r frame)) then Some (event.Reset stream 5) else None);
        stands = counted-stands c r frame stream (Some reset) c.streams answers c.kept c.owed c.block c.decoder s
            (touch-shut c.streams c.streams c.answers answers r frame stream (Some reset) s.streams o refl refl s.streams.remembered
            (waits-late c.streams c.answers answers r frame stream 5 s.streams closed.0 made only) (waits-elsewhere c.answers answers stream (also_reset (waiting_on c.answers stream) 5) only))
            refl b.block b.table b.owing (kept-same r frame stream c.kept s.keeping (open-shut r frame stream closed.0 still));
      }

  -- trailers, or their first fragment, on a live stream
  live-still : (opened : any_in (opens stream) r ≡ true) → reset_by (resets_of r) r (frames.Headers stream ended whole fragment) ≡ None → is_live r stream ≡ true → any_out (finishes stream) r ≡ false
      → is_live (In (frames.Headers stream ended whole fragment) ∷ r) stream ≡ true
  unfolding is_live_with
  live-still opened made live going =
      let z = not (0 == stream) in
      let c = not (any_in (cancels stream) r) in
      let e = ends stream (frames.Headers stream ended whole fragment) || any_in (ends stream) r in
      let o = any_in (opens stream) r in
      (λ i. (same-self stream i || o) && z && not (is_reset (with_reset (resets_of r) (made i)) stream) && c && not (e && going i))
      ∙ (λ i. sym opened i && z && not (is_reset (resets_of r) stream) && c && not (and-false e i))
      ∙ sym (λ i. o && z && not (is_reset (resets_of r) stream) && c && not (and-false (any_in (ends stream) r) i))
      ∙ sym (λ i. o && z && not (is_reset (resets_of r) stream) && c && not (any_in (ends stream) r && going i))
      ∙ live

  ends-now : any_in (ends stream) r ≡ false → (ends stream (frames.Headers stream ended whole fragment) || any_in (ends stream) r) ≡ ended
  ends-now going = (λ i. (ended && same-self stream i) || going i) ∙ and-true-or-false ended

  pub takes-headers : (c : Held) (streams : Book) (kept : List (ℕ × ℕ)) (h : Option BlockTold) → CountedBlock c r (frames.Headers stream ended whole fragment) → state_of r stream ≡ is.Live
      → IsFine h → Tells r (frames.Headers stream ended whole fragment) h
      → ((entry_of r stream).answered ≡ false → streams ≡ with_stream c.streams stream (record (entry_of r stream) { ended = ended }))
      → KeptOnly c.kept kept stream (if ended then 0 else settled_kept r stream)
      → Takes r (frames.Headers stream ended whole fragment) (told h) (record c { streams = streams; kept = kept })
  takes-headers c streams kept h b state fine tells changed keeps =
      let frame = frames.Headers stream ended whole fragment in
      let s = b.counted in
      let live = state-live r stream state in
      let waits = waits-live c.streams c.answers r stream s.streams live.0 in
      let going = waits.unfinished live.1 in
      let same = changed going in
      let made = made-headers is.Live state ∙ fine-reset r frame h fine tells in
      let still = live-still (live-opened (resets_of r) r stream live.0) made live.0 going in
      let keep : kept_of (In frame ∷ r) stream ≡ (if ended then 0 else settled_kept r stream) =
      (λ i. if still i && not (ends-now live.1 i) then settled_kept r stream else 0) ∙ flip ended (settled_kept r stream) in
      record {
        breaks = s.breaks;
        tells = ap (event_by r frame) made ∙ (λ i. if is_served_state (state i) then whole_event r (whole_block r frame) else None) ∙ fine-event r frame h fine tells;
        stands = counted-stands c r frame stream None streams c.answers kept c.owed c.block c.decoder s
            (touch-keep c.streams streams c.answers c.answers r frame stream None s.streams (on-headers None live.0 made tt) (record (entry_of r stream) { ended = ended }) still
            (ap (λ (b : Book). b.live) same) (ap (λ (b : Book). b.last) same) (ap (λ (b : Book). b.resets) same ∙ s.streams.remembered)
            (λ i. record (entry_of r stream) { ended = sym (ends-now live.1) i })
            (record {
              unreset = waits.unreset;
              unfinished = λ _. going;
              text = waits.text;
              replies = waits.replies ∙ (λ i. if (live.0 ∙ sym still) i then drop_bytes (data_out r stream) (replies_of r stream) else []);
            })
            (λ other differ. refl))
            refl b.block b.table b.owing (subst (λ (sum : ℕ). KeptOnly c.kept kept stream sum) (sym keep) keeps);
      }
    where
      flip : (b : Bool) (sum : ℕ) → (if not b then sum else 0) ≡ (if b then 0 else sum)
      flip true sum = refl
      flip false sum = refl

  pub takes-trailers : (c : Held) (streams : Book) (kept : List (ℕ × ℕ)) (h : Option BlockTold) → CountedBlock c r (frames.Headers stream ended whole fragment) → state_of r stream ≡ is.Live
      → IsFine h → Tells r (frames.Headers stream ended whole fragment) h
      → IfSome (find c.streams stream) (EndsTo c.streams stream ended streams) → KeptOnly c.kept kept stream (if ended then 0 else kept_on c.kept stream)
      → Takes r (frames.Headers stream ended whole fragment) (told h) (record c { streams = streams; kept = kept })
  takes-trailers c streams kept h b state fine tells ends keeps =
      let live = state-live r stream state in
      let end = subst (λ (o : Option Stream). IfSome o (EndsTo c.streams stream ended streams)) (b.counted.streams.found stream ∙ found-some (is_live r stream) (entry_of r stream) live.0) ends in
      takes-headers c streams kept h b state fine tells (end live.1)
      (subst (λ (sum : ℕ). KeptOnly c.kept kept stream (if ended then 0 else sum)) (b.counted.keeping stream) keeps)
