-- What HEADERS on a new id leave of a connection.
use Rattle.std.proofs.Common.{◌≡◌, ℕ, ◌<◌, ◌==◌, nat_eq, nat_lt, Bool, true, false, not, cond, ◌&&◌, ◌||◌, List, [], ◌∷◌, ◌++◌, length, filter, Option, None, Some, is_some, pos, ◌-ℤ◌, refl, sym, ap, subst, ◌∙◌, arith, append-nil, if◌then◌else◌}
use Rattle.std.specs.Option.{option_or}
use Rattle.std.specs.List.{list_any, AllByRecursion}
use Rattle.std.specs.Map.{lookup, remove_entry, keys_of}
use Rattle.std.proofs.lemmas.Int.{ints}
use Rattle.h2_frames.specs.declared.frame.Frame.TheVariants as frames
use Rattle.h2_streams.specs.declared.stream.Stream.{Stream}
use Rattle.h2_streams.specs.declared.stream.StreamState.TheVariants as is
use Rattle.h2_streams.specs.Book.{Book, find, opened, refused, remembering, without_reset}
use Rattle.h2_streams.specs.Calls.{new_stream}
use Rattle.h2_answers.specs.Replies.{drop_bytes}
use Rattle.h2_answers.specs.Waiting.{Waiting, waiting_on, nothing, with_reset as also_reset, ChangesOnly}
use Rattle.h2_record.specs.Record.{Record, In, any_in, any_out}
use Rattle.h2_record.specs.Windows.{data_out, initial_of, first_window}
use Rattle.h2_record.specs.Ids.{last_of, begun_of}
use Rattle.h2_record.specs.Live.{Reset, opens, ends, finishes, cancels, is_reset, is_live_with, entry_of}
use Rattle.h2_record.specs.Resets.{reset_by, with_reset, resets_of, is_live, is_open, state_of, live_of}
use Rattle.h2_record.specs.Refusals.{malformed_block, is_served_state, first_reset}
use Rattle.h2_record.specs.Texts.{codes_on}
use Rattle.std.proofs.lemmas.List.{length-map}
use Rattle.h2_record.specs.declared.event.Event.TheVariants as event
use Rattle.h2_conn.specs.declared.whole_block.BlockTold.{BlockTold}
use Rattle.h2_conn.specs.declared.whole_block.BlockTold.TheVariants as heard
use Rattle.h2_record.specs.Blocks.{whole_block}
use Rattle.h2_record.specs.Credits.{kept_of}
use Rattle.h2_record.specs.Events.{event_by, whole_event, is_request}
use Rattle.h2_conn.specs.WholeBlock.{Tells}
use Rattle.h2_conn.specs.Held.{Held}
use Rattle.h2_conn.specs.KeptCredit.{kept_on, KeptOnly}
use Rattle.h2_conn.specs.Counting.{CountedBlock}
use Rattle.h2_record.specs.Settling.{settled_kept}
use Rattle.h2_conn.specs.Taking.{Takes, Refuses}
use Rattle.h2_record.proofs.StepLemmas.{settled_kept-closed}
use Rattle.h2_conn.proofs.BodySteps.{counted-stands}
use Rattle.h2_conn.proofs.WholeBlockLemmas.{told, IsFine, fine-reset, fine-event, bad-reset, headers-stream}
use Rattle.h2_conn.proofs.HeaderSteps.{made-headers}
use Rattle.h2_record.specs.Fresh.{is_spoken}
use Rattle.h2_conn.specs.Stands.{StreamsStand}
use Rattle.h2_conn.specs.Waits.{WaitsBy, WaitsClosed, waiting_text}
use Rattle.h2_record.proofs.BoolLemmas.{and-true-or-false, same-self, same-eq, apart-flip, or-first, or-second, and-false, lt-yes, by-test}
use Rattle.h2_record.proofs.LiveLemmas.{none-above, unopened, filter-append, filter-agree}
use Rattle.h2_conn.proofs.TouchLemmas.{TouchesOne}
use Rattle.h2_record.proofs.ApartLemmas.{IsOf, away-of, live-other}
use Rattle.h2_record.proofs.LiveLaws.{codes-none}
use Rattle.h2_conn.proofs.CloseLemmas.{found-some}
use Rattle.h2_conn.proofs.ResetLemmas.{reset-shut, waits-elsewhere, waits-here}
use Rattle.h2_conn.proofs.FreshLemmas.{increments-in, increments-out, payloads-in, data-none, ends-none, cancels-none, finishes-none, replies-none, given-none, written-none, codes-unwritten}

-- the stream that was put last is found, and any other as before
lookup-last : (es : List (ℕ × Stream)) (id : ℕ) (stream : Stream) → lookup (nat_eq id) es ≡ None → lookup (nat_eq id) (es ++ (id, stream) ∷ []) ≡ Some stream
lookup-last [] id stream none = λ i. cond (same-self id i) (Some stream) None
lookup-last (e ∷ es) id stream none = by (nat_eq id e.0) (lookup-last es id stream) none
  where
    by : (b : Bool) → (lookup (nat_eq id) es ≡ None → lookup (nat_eq id) (es ++ (id, stream) ∷ []) ≡ Some stream) → cond b (Some e.1) (lookup (nat_eq id) es) ≡ None
        → cond b (Some e.1) (lookup (nat_eq id) (es ++ (id, stream) ∷ [])) ≡ Some stream
    by true rest none = absurd (cc)
    by false rest none = rest none

lookup-before : (es : List (ℕ × Stream)) (id other : ℕ) (stream : Stream) → (other == id) ≡ false → lookup (nat_eq other) (es ++ (id, stream) ∷ []) ≡ lookup (nat_eq other) es
lookup-before [] id other stream apart = λ i. cond (apart i) (Some stream) None
lookup-before (e ∷ es) id other stream apart = ap (λ rest. cond (nat_eq other e.0) (Some e.1) rest) (lookup-before es id other stream apart)

keys-last : (es : List (ℕ × Stream)) (id : ℕ) (stream : Stream) → keys_of (es ++ (id, stream) ∷ []) ≡ keys_of es ++ id ∷ []
keys-last [] id stream = refl
keys-last (e ∷ es) id stream = ap (λ keys. e.0 ∷ keys) (keys-last es id stream)

-- taken out again
pub remove-last : (es : List (ℕ × Stream)) (id : ℕ) (stream : Stream) → lookup (nat_eq id) es ≡ None → remove_entry (nat_eq id) (es ++ (id, stream) ∷ []) ≡ es
remove-last [] id stream none = λ i. cond (same-self id i) [] ((id, stream) ∷ [])
remove-last (e ∷ es) id stream none = by (nat_eq id e.0) (remove-last es id stream) none
  where
    by : (b : Bool) → (lookup (nat_eq id) es ≡ None → remove_entry (nat_eq id) (es ++ (id, stream) ∷ []) ≡ es) → cond b (Some e.1) (lookup (nat_eq id) es) ≡ None
        → cond b (es ++ (id, stream) ∷ []) (e ∷ remove_entry (nat_eq id) (es ++ (id, stream) ∷ [])) ≡ e ∷ es
    by true rest none = absurd (cc)
    by false rest none = ap (λ l. e ∷ l) (rest none)

module _ (streams : Book) (answers : List (ℕ × Waiting)) (r : Record) (stream : ℕ) (ended whole : Bool) (fragment : List ℕ) (s : StreamsStand streams answers r) (risen : last_of r < stream) where
  quiet : is_spoken r stream ≡ false
  quiet = (s.fresh stream risen).0

  pub was-shut : is_live r stream ≡ false
  unfolding is_live_with
  was-shut = λ i. unopened r stream risen i && not (0 == stream) && not (is_reset (resets_of r) stream) && not (any_in (cancels stream) r) && not (any_in (ends stream) r && any_out (finishes stream) r)

  pub not-found : find streams stream ≡ None
  not-found = s.found stream ∙ (λ i. if was-shut i then Some (entry_of r stream) else None)

  last-new : last_of (In (frames.Headers stream ended whole fragment) ∷ r) ≡ stream
  last-new = λ i. if lt-yes (last_of r) stream risen i then stream else last_of r

  begun-new : begun_of (In (frames.Headers stream ended whole fragment) ∷ r) ≡ begun_of r ++ stream ∷ []
  begun-new = λ i. if lt-yes (last_of r) stream risen i then begun_of r ++ stream ∷ [] else begun_of r

  pub nothing-waits : waiting_on answers stream ≡ nothing
  nothing-waits =
      let w : WaitsClosed r stream (waiting_on answers stream) = subst (λ (b : Bool). WaitsBy b r stream (waiting_on answers stream)) was-shut (s.waits stream) in
      let none : (waiting_on answers stream).resets ≡ [] = (λ i. sym (codes-unwritten stream r quiet) i ++ (waiting_on answers stream).resets) ∙ w.resets ∙ codes-none (resets_of r) stream (s.fresh stream risen).1 in
      w.text ∙ (λ i. record nothing { resets = none i })

  module _ (x : Option Reset) (made : reset_by (resets_of r) r (frames.Headers stream ended whole fragment) ≡ x) (of : IsOf x stream) where
    other-same : (other : ℕ) → (other == stream) ≡ false → is_live (In (frames.Headers stream ended whole fragment) ∷ r) other ≡ is_live r other
    other-same other off = live-other r (frames.Headers stream ended whole fragment) x made other off (away-of x stream other of off)

    agree : (xs : List ℕ) → list_any (nat_eq stream) xs ≡ false → AllByRecursion (λ o. is_live (In (frames.Headers stream ended whole fragment) ∷ r) o ≡ is_live r o) xs
    agree [] none = tt
    agree (o ∷ xs) none = (other-same o (apart-flip stream o (or-first (nat_eq stream o) (list_any (nat_eq stream) xs) none)), agree xs (or-second (nat_eq stream o) (list_any (nat_eq stream) xs) none))

    live-new : live_of (In (frames.Headers stream ended whole fragment) ∷ r) ≡ live_of r ++ cond (is_live (In (frames.Headers stream ended whole fragment) ∷ r) stream) (stream ∷ []) []
    live-new =
        let now = is_live (In (frames.Headers stream ended whole fragment) ∷ r) in
        ap (filter now) begun-new ∙ filter-append now (begun_of r) (stream ∷ []) ∙ ap (λ kept. kept ++ cond (now stream) (stream ∷ []) []) (filter-agree now (is_live r) (begun_of r) (agree (begun_of r) (none-above r stream risen)))

  -- a stream is opened
  module _ (made : reset_by (resets_of r) r (frames.Headers stream ended whole fragment) ≡ None) (some : (0 == stream) ≡ false) where
    pub now-live : is_live (In (frames.Headers stream ended whole fragment) ∷ r) stream ≡ true
    unfolding is_live_with
    now-live =
        let e = ends stream (frames.Headers stream ended whole fragment) || any_in (ends stream) r in
        (λ i. (same-self stream i || any_in (opens stream) r) && not (some i) && not (is_reset (with_reset (resets_of r) (made i)) stream) && not (cancels-none stream r quiet i) && not (e && finishes-none stream r quiet i))
        ∙ (λ i. not ((s.fresh stream risen).1 i) && true && not (and-false e i))

    new-entry : new_stream (pos (initial_of r)) ended ≡ entry_of (In (frames.Headers stream ended whole fragment) ∷ r) stream
    new-entry = sym ((λ i. record {
      send = pos (increments-in stream r (initial_of r) quiet i) -ℤ pos (data-none stream r 0 quiet i);
      receive = pos (increments-out stream r first_window quiet i) -ℤ pos (payloads-in stream r 0 quiet i);
      ended = (ended && same-self stream i) || ends-none stream r quiet i;
      answered = finishes-none stream r quiet i;
    }) ∙ plain)
      where
        plain : ◌≡◌ {A = Stream} (record { send = pos (initial_of r) -ℤ pos 0; receive = pos first_window -ℤ pos 0; ended = (ended && true) || false; answered = false }) (new_stream (pos (initial_of r)) ended)
        plain = λ i. record { send = less i; receive = pos first_window; ended = and-true-or-false ended i; answered = false }
          where
            less : (pos (initial_of r) -ℤ pos 0) ≡ pos (initial_of r)
            less = omega (arith, ints)

    pub touch-open : (streams' : Book) → streams' ≡ opened streams stream (new_stream (pos (initial_of r)) ended) → TouchesOne streams streams' answers answers r (frames.Headers stream ended whole fragment) stream None
    touch-open streams' same =
        let frame = frames.Headers stream ended whole fragment in
        let entry = new_stream (pos (initial_of r)) ended in
        record {
          made = made;
          of = tt;
          on = λ other off. off;
          steady = refl;
          last = ap (λ (b : Book). b.last) same ∙ sym last-new;
          rises = omega (arith, last-new, risen);
          within = omega (arith, last-new);
          remembered = ap (λ (b : Book). b.resets) same ∙ s.remembered;
          here = ap (λ (b : Book). find b stream) same ∙ lookup-last streams.live stream entry not-found ∙ ap Some new-entry
              ∙ sym (found-some (is_live (In frame ∷ r) stream) (entry_of (In frame ∷ r) stream) now-live);
          others = λ other differ. ap (λ (b : Book). find b other) same ∙ lookup-before streams.live stream other entry (apart-flip stream other differ);
          keys = ap (λ (b : Book). keys_of b.live) same ∙ keys-last streams.live stream entry ∙ ap (λ keys. keys ++ stream ∷ []) s.live
              ∙ sym (live-new None made tt ∙ ap (λ b. live_of r ++ cond b (stream ∷ []) []) now-live);
          waits = subst (λ (b : Bool). WaitsBy b (In frame ∷ r) stream (waiting_on answers stream)) (sym now-live) (record {
            unreset = codes-unwritten stream r quiet;
            unfinished = λ _. finishes-none stream r quiet;
            text = (λ i. written-none stream r quiet i ++ waiting_text (nothing-waits i)) ∙ sym (given-none stream r quiet);
            replies = ap (λ (w : Waiting). w.replies) nothing-waits ∙ sym ((λ i. if now-live i then drop_bytes (data_out r stream) (replies-none stream r quiet i) else []));
          });
          rest = λ other differ. refl;
        }

  -- or it is refused, or malformed
  pub touch-refused : (streams' : Book) (answers' : List (ℕ × Waiting)) (code : ℕ) → reset_by (resets_of r) r (frames.Headers stream ended whole fragment) ≡ Some (record { stream = stream; code = code; is_first = true })
      → streams'.live ≡ streams.live → streams'.last ≡ stream → streams'.resets ≡ remembering streams.resets stream → waiting_on answers' stream ≡ record nothing { resets = code ∷ [] }
      → ((other : ℕ) → (stream == other) ≡ false → waiting_on answers' other ≡ waiting_on answers other)
      → TouchesOne streams streams' answers answers' r (frames.Headers stream ended whole fragment) stream (Some (record { stream = stream; code = code; is_first = true }))
  touch-refused streams' answers' code made live last resets here rest =
      let frame = frames.Headers stream ended whole fragment in
      let reset : Reset = record { stream = stream; code = code; is_first = true } in
      let shut = reset-shut r frame stream code true made in
      record {
        made = made;
        of = refl;
        on = λ other off. off;
        steady = refl;
        last = last ∙ sym last-new;
        rises = omega (arith, last-new, risen);
        within = omega (arith, last-new);
        remembered = resets ∙ ap (λ ids. remembering ids stream) s.remembered;
        here = ap (λ es. lookup (nat_eq stream) es) live ∙ not-found ∙ sym (λ i. if shut i then Some (entry_of (In frame ∷ r) stream) else None);
        others = λ other differ. ap (λ es. lookup (nat_eq other) es) live;
        keys = ap keys_of live ∙ s.live ∙ sym (live-new (Some reset) made refl ∙ ap (λ b. live_of r ++ cond b (stream ∷ []) []) shut ∙ append-nil (live_of r));
        waits = subst (λ (b : Bool). WaitsBy b (In frame ∷ r) stream (waiting_on answers' stream)) (sym shut) (record {
          text = here ∙ ap (λ (w : Waiting). record nothing { resets = w.resets }) (sym here);
          resets = (λ i. codes-unwritten stream r quiet i ++ (here i).resets)
              ∙ sym (ap (λ resets. codes_on resets stream) (ap (with_reset (resets_of r)) made) ∙ (λ i. if same-self stream i then codes_on (resets_of r) stream ++ code ∷ [] else codes_on (resets_of r) stream)
              ∙ ap (λ codes. codes ++ code ∷ []) (codes-none (resets_of r) stream (s.fresh stream risen).1));
        });
        rest = rest;
      }

-- the connection with the new stream
module _ (c : Held) (r : Record) (stream : ℕ) (ended whole : Bool) (fragment : List ℕ) (b : CountedBlock c r (frames.Headers stream ended whole fragment)) (risen : last_of r < stream) (state : state_of r stream ≡ is.Idle) where
  shut : is_live r stream ≡ false
  shut = was-shut c.streams c.answers r stream ended whole fragment b.counted.streams risen

  none-kept : settled_kept r stream ≡ 0
  none-kept = settled_kept-closed r stream (λ i. shut i && not (any_in (ends stream) r))

  kept-new : kept_of (In (frames.Headers stream ended whole fragment) ∷ r) stream ≡ settled_kept r stream
  kept-new = (λ i. if is_open (In (frames.Headers stream ended whole fragment) ∷ r) stream then none-kept i else 0) ∙ both (is_open (In (frames.Headers stream ended whole fragment) ∷ r) stream) ∙ sym none-kept
    where
      both : (b : Bool) → ◌≡◌ {A = ℕ} (if b then 0 else 0) 0
      both true = refl
      both false = refl

  keeps : KeptOnly c.kept c.kept stream (kept_of (In (frames.Headers stream ended whole fragment) ∷ r) stream)
  keeps other = by-test (nat_eq stream other)
      (λ here. ap (kept_on c.kept) (sym (same-eq stream other here)) ∙ b.counted.keeping stream ∙ sym kept-new ∙ (λ i. if sym here i then kept_of (In (frames.Headers stream ended whole fragment) ∷ r) stream else kept_on c.kept other))
      (λ apart. (λ i. if sym apart i then kept_of (In (frames.Headers stream ended whole fragment) ∷ r) stream else kept_on c.kept other))

  length-live : length (live_of r) ≡ length c.streams.live
  length-live = ap length (sym b.counted.streams.live) ∙ length-map c.streams.live (λ e. e.0)

  pub takes-open : (streams : Book) (h : Option BlockTold) → (0 == stream) ≡ false → length c.streams.live < 100 → IsFine h → Tells r (frames.Headers stream ended whole fragment) h
      → streams ≡ opened c.streams stream (new_stream (pos c.initial) ended) → Takes r (frames.Headers stream ended whole fragment) (told h) (record c { streams = streams })
  takes-open streams h some few fine tells same =
      let frame = frames.Headers stream ended whole fragment in
      let s = b.counted in
      let room : nat_lt (length (live_of r)) 100 ≡ true = ap (λ n. nat_lt n 100) length-live ∙ lt-yes (length c.streams.live) 100 few in
      let made = made-headers r stream ended whole fragment is.Idle state
      ∙ (λ i. option_or (if room i then None else first_reset stream 7) (malformed_block r (whole_block r frame))) ∙ fine-reset r frame h fine tells in
      record {
        breaks = s.breaks;
        tells = ap (event_by r frame) made ∙ (λ i. if is_served_state (state i) then whole_event r (whole_block r frame) else None) ∙ fine-event r frame h fine tells;
        stands = counted-stands c r frame stream None streams c.answers c.kept c.owed c.block c.decoder s
            (touch-open c.streams c.answers r stream ended whole fragment s.streams risen made some streams (same ∙ ap (λ n. opened c.streams stream (new_stream (pos n) ended)) s.initial))
            refl b.block b.table b.owing keeps;
      }

  takes-shut : (c' : Held) (code : ℕ) → reset_by (resets_of r) r (frames.Headers stream ended whole fragment) ≡ first_reset stream code
      → c'.streams.live ≡ c.streams.live → c'.streams.last ≡ stream → c'.streams.resets ≡ remembering c.streams.resets stream
      → waiting_on c'.answers stream ≡ record nothing { resets = code ∷ [] } → ((other : ℕ) → (stream == other) ≡ false → waiting_on c'.answers other ≡ waiting_on c.answers other)
      → KeptOnly c.kept c'.kept stream (kept_of (In (frames.Headers stream ended whole fragment) ∷ r) stream)
      → Takes r (frames.Headers stream ended whole fragment) None (record c { streams = c'.streams; answers = c'.answers; kept = c'.kept })
  takes-shut c' code made live last resets here rest keeping =
      let frame = frames.Headers stream ended whole fragment in
      let s = b.counted in
      record {
        breaks = s.breaks;
        tells = ap (event_by r frame) made ∙ (λ i. if shut i && not (is_request (whole_block r frame)) then Some (event.Reset stream code) else None);
        stands = counted-stands c r frame stream (Some (record { stream = stream; code = code; is_first = true })) c'.streams c'.answers c'.kept c.owed c.block c.decoder s
            (touch-refused c.streams c.answers r stream ended whole fragment s.streams risen c'.streams c'.answers code made live last resets here rest)
            refl b.block b.table b.owing keeping;
      }

  -- 100 live
  pub takes-refused : (streams : Book) (answers : List (ℕ × Waiting)) → length c.streams.live ≡ 100 → streams ≡ refused c.streams stream
      → ChangesOnly c.answers answers stream (also_reset (waiting_on c.answers stream) 7) → Takes r (frames.Headers stream ended whole fragment) None (record c { streams = streams; answers = answers })
  takes-refused streams answers full same only =
      let frame = frames.Headers stream ended whole fragment in
      let room : nat_lt (length (live_of r)) 100 ≡ false = ap (λ n. nat_lt n 100) (length-live ∙ full) in
      let made = made-headers r stream ended whole fragment is.Idle state
      ∙ (λ i. option_or (if room i then None else first_reset stream 7) (malformed_block r (whole_block r frame))) in
      let was = nothing-waits c.streams c.answers r stream ended whole fragment b.counted.streams risen in
      takes-shut (record c { streams = streams; answers = answers }) 7 made (ap (λ (b : Book). b.live) same) (ap (λ (b : Book). b.last) same) (ap (λ (b : Book). b.resets) same)
      (waits-here c.answers answers stream (also_reset (waiting_on c.answers stream) 7) only ∙ (λ i. also_reset (was i) 7))
      (waits-elsewhere c.answers answers stream (also_reset (waiting_on c.answers stream) 7) only) keeps

  -- malformed
  pub takes-malformed : (c' : Held) (streams : Book) → length c.streams.live < 100 → Tells r (frames.Headers stream ended whole fragment) (Some heard.Malformed)
      → streams ≡ opened c.streams stream (new_stream (pos c.initial) ended) → Refuses (record c { streams = streams }) stream 1 c'
      → Takes r (frames.Headers stream ended whole fragment) None c'
  takes-malformed c' streams few tells same refuses =
      let frame = frames.Headers stream ended whole fragment in
      let room : nat_lt (length (live_of r)) 100 ≡ true = ap (λ n. nat_lt n 100) length-live ∙ lt-yes (length c.streams.live) 100 few in
      let made = made-headers r stream ended whole fragment is.Idle state
      ∙ (λ i. option_or (if room i then None else first_reset stream 7) (malformed_block r (whole_block r frame)))
      ∙ bad-reset r frame tells ∙ ap (λ n. first_reset n 1) (headers-stream r stream ended whole fragment tells.0 tells.1) in
      let gone = refuses.streams ∙ ap (λ (b : Book). without_reset b stream) same in
      let missing = not-found c.streams c.answers r stream ended whole fragment b.counted.streams risen in
      let waits = refuses.answers in
      subst (λ (h : Held). Takes r frame None h) (sym refuses.rest)
      (takes-shut c' 1 made (ap (λ (b : Book). b.live) gone ∙ remove-last c.streams.live stream (new_stream (pos c.initial) ended) missing) (ap (λ (b : Book). b.last) gone) (ap (λ (b : Book). b.resets) gone)
      (waits-here c.answers c'.answers stream (record nothing { resets = 1 ∷ [] }) waits) (waits-elsewhere c.answers c'.answers stream (record nothing { resets = 1 ∷ [] }) waits)
      (subst (λ (sum : ℕ). KeptOnly c.kept c'.kept stream sum) (sym (kept-new ∙ none-kept)) refuses.kept))

-- the stream that was opened is found
pub there-opened : (es : List (ℕ × Stream)) (id : ℕ) (stream : Stream) → is_some (lookup (nat_eq id) (es ++ (id, stream) ∷ [])) ≡ true
there-opened [] id stream = λ i. is_some (cond (same-self id i) (Some stream) None)
there-opened (e ∷ es) id stream = by (nat_eq id e.0) (there-opened es id stream)
  where
    by : (b : Bool) → is_some (lookup (nat_eq id) (es ++ (id, stream) ∷ [])) ≡ true → is_some (cond b (Some e.1) (lookup (nat_eq id) (es ++ (id, stream) ∷ []))) ≡ true
    by true rest = refl
    by false rest = rest
