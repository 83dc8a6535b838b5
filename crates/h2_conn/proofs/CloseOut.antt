-- A frame that went and closes a live stream, and one that leaves it live.
use Rattle.std.proofs.Common.{◌≡◌, ℕ, nat_eq, nat_lt, ◌==◌, Bool, true, false, not, cond, ◌&&◌, ◌||◌, List, [], ◌∷◌, ◌++◌, map, length, Option, None, Some, IsSome, refl, sym, ap, subst, ◌∙◌, append-nil, if◌then◌else◌}
use Rattle.std.specs.Map.{keys_of, lookup, remove_entry, set_value}
use Rattle.std.proofs.lemmas.Map.{keys-set_value}
use Rattle.h2_frames.specs.declared.frame.Frame.{Frame}
use Rattle.h2_streams.specs.declared.stream.Stream.{Stream}
use Rattle.h2_streams.specs.Book.{Book, find, without, without_reset, remembering}
use Rattle.h2_answers.specs.Waiting.{Waiting, waiting_on, nothing, ChangesOnly}
use Rattle.h2_record.specs.Record.{Record, Out, any_in, any_out}
use Rattle.h2_record.specs.Windows.{connection_window_of}
use Rattle.h2_record.specs.Ids.{begun_of}
use Rattle.h2_record.specs.Live.{Reset, opens, ends, finishes, cancels, is_reset, is_live_with, remembered_in, entry_of}
use Rattle.h2_record.specs.Resets.{reset_behind, with_reset, resets_of, is_live}
use Rattle.h2_record.specs.Credits.{is_free, most_waiting, kept_of, freed_by}
use Rattle.h2_record.specs.Control.{frame_of, written_control_of}
use Rattle.h2_record.specs.Texts.{codes_on, written_codes, has_headed}
use Rattle.h2_record.specs.Fresh.{is_on}
use Rattle.h2_conn.specs.KeptCredit.{kept_on, KeptOnly}
use Rattle.h2_conn.specs.Held.{Held}
use Rattle.h2_conn.specs.Stands.{StreamsStand, OpenStands}
use Rattle.h2_conn.specs.Waits.{WaitsBy, WaitsLive, WaitsClosed}
use Rattle.h2_record.specs.Settling.{settled_kept, settled_control}
use Rattle.h2_conn.specs.Taking.{Settled}
use Rattle.h2_record.proofs.BoolLemmas.{and-true, and-false, apart-flip, same-eq, same-self, by-test}
use Rattle.h2_record.proofs.LiveLemmas.{distinct-begun, filter-same, keys-closed}
use Rattle.h2_record.proofs.ApartLemmas.{IsOf, away-of}
use Rattle.h2_record.proofs.LiveLaws.{live-unreset, live-within, codes-none}
use Rattle.h2_conn.proofs.CloseLemmas.{found-removed, found-set, found-none, found-some, distinct-live}
use Rattle.h2_conn.proofs.ResetLemmas.{waits-here, waits-elsewhere}
use Rattle.h2_record.proofs.KeptLaws.{is_keeping, kept-out}
use Rattle.h2_conn.proofs.OutLemmas.{GoesOn, live-out, open-out, unwritten-out, streams-out}
use Rattle.h2_conn.proofs.OutSteps.{out_after, stands-out}

-- What is known of a frame that went on a live stream, of the others' part and of the reset that it makes due.
pub record OutOnLive (r : Record) (frame : Frame) (id : ℕ) (x : Option Reset) : Type 0 where
  pub live : is_live r id ≡ true
  pub made : reset_behind (resets_of r) r frame ≡ x
  pub of : IsOf x id
  pub on : (other : ℕ) → (other == id) ≡ false → is_on other frame ≡ false

module _ (streams streams' : Book) (answers answers' : List (ℕ × Waiting)) (r : Record) (frame : Frame) (id : ℕ) (x : Option Reset) (s : StreamsStand streams answers r) (o : OutOnLive r frame id x) where
  other-live : (other : ℕ) → (id == other) ≡ false → is_live (Out frame ∷ r) other ≡ is_live r other
  other-live other differ = let off = apart-flip id other differ in live-out r frame x o.made other (o.on other off) (away-of x id other o.of off)

  -- closed
  pub out-close : is_live (Out frame ∷ r) id ≡ false → streams'.live ≡ remove_entry (nat_eq id) streams.live → streams'.last ≡ streams.last
      → streams'.resets ≡ remembered_in (with_reset (resets_of r) x) → WaitsClosed (Out frame ∷ r) id (waiting_on answers' id)
      → ((other : ℕ) → (id == other) ≡ false → waiting_on answers' other ≡ waiting_on answers other)
      → GoesOn streams streams' answers answers' r frame id x
  out-close shut removed last remembered waits rest = record {
    made = o.made;
    of = o.of;
    on = o.on;
    within = live-within r id o.live;
    last = last;
    remembered = remembered;
    here = ap (lookup (nat_eq id)) removed ∙ found-removed streams.live id id (distinct-live streams answers r s)
        ∙ ap (λ b. cond b None (lookup (nat_eq id) streams.live)) (same-self id) ∙ sym (found-none (is_live (Out frame ∷ r) id) (entry_of (Out frame ∷ r) id) shut);
    others = λ other differ. ap (lookup (nat_eq other)) removed ∙ found-removed streams.live id other (distinct-live streams answers r s)
        ∙ ap (λ b. cond b None (lookup (nat_eq other) streams.live)) differ;
    keys = ap keys_of removed ∙ keys-closed (is_live r) (is_live (Out frame ∷ r)) id (begun_of r) streams.live (distinct-begun r) s.live gone;
    waits = subst (λ (live : Bool). WaitsBy live (Out frame ∷ r) id (waiting_on answers' id)) (sym shut) waits;
    rest = rest;
  }
    where
      gone : (other : ℕ) → is_live (Out frame ∷ r) other ≡ (is_live r other && not (nat_eq id other))
      gone other = by-test (id == other)
          (λ same. subst (λ (o : ℕ). is_live (Out frame ∷ r) o ≡ false) (same-eq id other same) shut ∙ sym (and-false (is_live r other)) ∙ (λ i. is_live r other && not (sym same i)))
          (λ differ. other-live other differ ∙ sym (and-true (is_live r other)) ∙ (λ i. is_live r other && not (sym differ i)))

  -- changed
  pub out-keep : (stream : Stream) → is_live (Out frame ∷ r) id ≡ true → streams'.live ≡ set_value (nat_eq id) streams.live stream → streams'.last ≡ streams.last
      → streams'.resets ≡ remembered_in (with_reset (resets_of r) x) → stream ≡ entry_of (Out frame ∷ r) id → WaitsLive (Out frame ∷ r) id (waiting_on answers' id)
      → ((other : ℕ) → (id == other) ≡ false → waiting_on answers' other ≡ waiting_on answers other)
      → GoesOn streams streams' answers answers' r frame id x
  out-keep stream kept set last remembered entry waits rest = record {
    made = o.made;
    of = o.of;
    on = o.on;
    within = live-within r id o.live;
    last = last;
    remembered = remembered;
    here = ap (lookup (nat_eq id)) set ∙ found-set streams.live id id stream there ∙ ap (λ b. cond b (Some stream) (lookup (nat_eq id) streams.live)) (same-self id)
        ∙ ap Some entry ∙ sym (found-some (is_live (Out frame ∷ r) id) (entry_of (Out frame ∷ r) id) kept);
    others = λ other differ. ap (lookup (nat_eq other)) set ∙ found-set streams.live id other stream there ∙ ap (λ b. cond b (Some stream) (lookup (nat_eq other) streams.live)) differ;
    keys = ap keys_of set ∙ keys-set_value (nat_eq id) streams.live stream ∙ s.live ∙ filter-same (is_live r) (is_live (Out frame ∷ r)) (begun_of r) stays;
    waits = subst (λ (live : Bool). WaitsBy live (Out frame ∷ r) id (waiting_on answers' id)) (sym kept) waits;
    rest = rest;
  }
    where
      there : IsSome (find streams id)
      there = subst IsSome (sym (s.found id ∙ found-some (is_live r id) (entry_of r id) o.live)) refl

      stays : (other : ℕ) → is_live r other ≡ is_live (Out frame ∷ r) other
      stays other = by-test (id == other)
          (λ same. subst (λ (o : ℕ). is_live r o ≡ is_live (Out frame ∷ r) o) (same-eq id other same) (o.live ∙ sym kept))
          (λ differ. sym (other-live other differ))

-- ---- the frame closes the stream

-- by the reset that it makes due
pub reset-shut-out : (r : Record) (frame : Frame) (id code : ℕ) → reset_behind (resets_of r) r frame ≡ Some (record { stream = id; code = code; is_first = true }) → is_live (Out frame ∷ r) id ≡ false
unfolding is_live_with
reset-shut-out r frame id code made =
    let a = any_in (opens id) r && not (0 == id) in
    let d = not (any_in (cancels id) r) in
    let e = not (any_in (ends id) r && (finishes id frame || any_out (finishes id) r)) in
    (λ i. a && not (is_reset (with_reset (resets_of r) (made i)) id) && d && e)
    ∙ (λ i. a && not (same-self id i || is_reset (resets_of r) id) && d && e)
    ∙ (λ i. and-false a i && d && e)

module _ (streams streams' : Book) (answers answers' : List (ℕ × Waiting)) (r : Record) (frame : Frame) (id : ℕ) (s : StreamsStand streams answers r) where
  -- so that these codes are left to go
  pub out-reset : (code : ℕ) (codes : List ℕ) → OutOnLive r frame id (Some (record { stream = id; code = code; is_first = true })) → streams' ≡ without_reset streams id
      → ChangesOnly answers answers' id (record nothing { resets = codes }) → written_codes (Out frame ∷ r) id ++ codes ≡ code ∷ []
      → GoesOn streams streams' answers answers' r frame id (Some (record { stream = id; code = code; is_first = true }))
  out-reset code codes o is only went =
      let reset : Reset = record { stream = id; code = code; is_first = true } in
      let here = waits-here answers answers' id (record nothing { resets = codes }) only in
      out-close streams streams' answers answers' r frame id (Some reset) s o (reset-shut-out r frame id code o.made) (ap (λ (b : Book). b.live) is) (ap (λ (b : Book). b.last) is)
      (ap (λ (b : Book). b.resets) is ∙ ap (λ ids. remembering ids id) s.remembered)
      (record {
        text = here ∙ ap (λ (w : Waiting). record nothing { resets = w.resets }) (sym here);
        resets = (λ i. written_codes (Out frame ∷ r) id ++ (here i).resets) ∙ went
            ∙ sym (ap (λ resets. codes_on resets id) (ap (with_reset (resets_of r)) o.made)
            ∙ (λ i. if same-self id i then codes_on (resets_of r) id ++ code ∷ [] else codes_on (resets_of r) id)
            ∙ ap (λ codes. codes ++ code ∷ []) (codes-none (resets_of r) id (live-unreset (resets_of r) r id o.live)));
      })
      (waits-elsewhere answers answers' id (record nothing { resets = codes }) only)

  -- or since both sides have ended it
  pub out-ended : is_live (Out frame ∷ r) id ≡ false → OutOnLive r frame id None → streams' ≡ without streams id → ChangesOnly answers answers' id nothing
      → written_codes (Out frame ∷ r) id ≡ [] → GoesOn streams streams' answers answers' r frame id None
  out-ended shut o is only went =
      let here = waits-here answers answers' id nothing only in
      out-close streams streams' answers answers' r frame id None s o shut (ap (λ (b : Book). b.live) is) (ap (λ (b : Book). b.last) is)
      (ap (λ (b : Book). b.resets) is ∙ s.remembered)
      (record {
        text = here ∙ ap (λ (w : Waiting). record nothing { resets = w.resets }) (sym here);
        resets = (λ i. went i ++ (here i).resets)
            ∙ sym (ap (λ resets. codes_on resets id) (ap (with_reset (resets_of r)) o.made) ∙ codes-none (resets_of r) id (live-unreset (resets_of r) r id o.live));
      })
      (waits-elsewhere answers answers' id nothing only)

-- ---- what is kept, and the whole connection

-- what waits on a stream is changed twice
pub changes-twice : (old between new : List (ℕ × Waiting)) (id : ℕ) (first second : Waiting) → ChangesOnly old between id first → ChangesOnly between new id second → ChangesOnly old new id second
changes-twice old between new id first second before behind other = behind other ∙ ap (λ w. if nat_eq id other then second else w) (before other) ∙ chosen (nat_eq id other) (waiting_on old other)
  where
    chosen : (b : Bool) (w : Waiting) → (if b then second else (if b then first else w)) ≡ (if b then second else w)
    chosen true w = refl
    chosen false w = refl

-- nothing is kept of a stream that is closed, and of the others what was
pub kept-close : (r : Record) (frame : Frame) (id : ℕ) (x : Option Reset) (old new : List (ℕ × ℕ)) → OutOnLive r frame id x → is_live (Out frame ∷ r) id ≡ false
    → ((other : ℕ) → kept_on old other ≡ settled_kept r other) → KeptOnly old new id 0 → (other : ℕ) → kept_on new other ≡ kept_of (Out frame ∷ r) other
unfolding is_keeping
kept-close r frame id x old new o shut settled only other = by-test (id == other)
    (λ same. only other ∙ (λ i. if same i then 0 else kept_on old other)
    ∙ sym (λ i. if (shut i && not (any_in (ends id) r)) && not (is_free (Out frame ∷ r) id) then settled_kept r id else 0)
    ∙ ap (kept_of (Out frame ∷ r)) (same-eq id other same))
    (λ differ. let off = apart-flip id other differ in
    let away = away-of x id other o.of off in
    let opened = open-out r frame x o.made other (o.on other off) away in
    let unwritten = unwritten-out r frame x o.made other (o.on other off) away in
    only other ∙ (λ i. if differ i then 0 else kept_on old other) ∙ settled other
    ∙ sym (kept-out r frame other (λ i. opened i && not (nat_lt (length (unwritten i)) most_waiting))))

-- a connection of which a frame closed a stream, and caused no control frame
pub stands-close : (c : Held) (r : Record) (frame : Frame) (id : ℕ) (x : Option Reset) (streams : Book) (kept : List (ℕ × ℕ)) (headed : Bool) (answers : List (ℕ × Waiting)) (unwritten : ℕ)
    → Settled c r → GoesOn c.streams streams c.answers answers r frame id x → OutOnLive r frame id x → is_live (Out frame ∷ r) id ≡ false
    → connection_window_of (Out frame ∷ r) ≡ connection_window_of r → written_control_of (Out frame ∷ r) ≡ written_control_of r → freed_by r frame ≡ []
    → KeptOnly c.kept kept id 0 → headed ≡ has_headed (Out frame ∷ r)
    → OpenStands (out_after c c.window streams c.control kept headed answers unwritten) (Out frame ∷ r)
stands-close c r frame id x streams kept headed answers unwritten s goes o shut window control freed keeps heads =
    stands-out c r frame c.window streams c.control kept headed answers unwritten s (s.window ∙ sym window)
    (streams-out c.streams streams c.answers answers r frame id x goes s.streams)
    ((λ i. control i ++ map frame_of c.control) ∙ s.controls ∙ sym (append-nil (settled_control r)) ∙ ap (λ freed. settled_control r ++ freed) (sym freed))
    (kept-close r frame id x c.kept kept o shut s.keeping keeps) heads
