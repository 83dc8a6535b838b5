-- What HEADERS that went leave of a connection.
use Rattle.std.proofs.Common.{◌≡◌, ℕ, ◌+◌, ◌%◌, ◌==◌, nat_lt, Bool, true, false, not, ◌&&◌, ◌||◌, List, [], ◌∷◌, ◌++◌, map, None, Some, IsSome, is_some, unwrap_or, length, refl, sym, ap, subst, ◌∙◌, append-nil, append_assoc, true≢false, if◌then◌else◌}
use Rattle.std.specs.List.{concat}
use Rattle.h2_frames.specs.declared.frame.Frame.{Frame}
use Rattle.h2_frames.specs.declared.frame.Frame.TheVariants as frames
use Rattle.h2_streams.specs.declared.stream.StreamState.{StreamState}
use Rattle.h2_streams.specs.declared.stream.StreamState.TheVariants as is
use Rattle.h2_streams.specs.Book.{Book, state_in, without}
use Rattle.h2_answers.specs.declared.part.Head.{Head}
use Rattle.h2_answers.specs.declared.part.Part.TheVariants as part
use Rattle.h2_answers.specs.declared.part.Due.{Due}
use Rattle.h2_answers.specs.Waiting.{Waiting, waiting_on, nothing, ChangesOnly}
use Rattle.h2_answers.specs.Due.{IsAhead, block_of, head_block, waiting_behind}
use Rattle.h2_record.specs.Record.{Record, In, Out, Given, Whole, Broken, any_in, any_out, has_begun}
use Rattle.h2_record.specs.Blocks.{open_of}
use Rattle.h2_record.specs.Ids.{last_of}
use Rattle.h2_record.specs.Live.{opens, ends, finishes, cancels, is_reset, is_live_with, is_idle_above}
use Rattle.h2_record.specs.Resets.{reset_behind, resets_of, is_live, state_of}
use Rattle.h2_record.specs.Refusals.{first_reset}
use Rattle.h2_record.specs.Codes.{no_error}
use Rattle.h2_record.specs.Faults.{fault_by, first_fault_of}
use Rattle.h2_record.specs.Texts.{Token, Fields, Octet, Aborted, has_headed, written_text}
use Rattle.h2_conn.specs.Held.{Held}
use Rattle.h2_conn.specs.Stands.{StreamsStand, OpenStands}
use Rattle.h2_conn.specs.Waits.{tail_text, waiting_text, WaitsBy, WaitsLive}
use Rattle.h2_record.specs.Settling.{settled_control}
use Rattle.h2_conn.specs.Taking.{Settled, Refuses}
use Rattle.h2_record.specs.Early.{early_fault, late_fault}
use Rattle.h2_conn.specs.Parts.{part_frame, PartGoes, LeavesPart, Closes, FinishesBy, Finishes}
use Rattle.h2_record.proofs.BoolLemmas.{or-none, and-false, same-self, same-eq, lt-no}
use Rattle.h2_record.proofs.OptionLemmas.{first-of, second-of}
use Rattle.h2_record.proofs.FaultLemmas.{not-even}
use Rattle.h2_record.proofs.FaultSplit.{fault-split}
use Rattle.h2_conn.proofs.StateLemmas.{state-settled, state-live, state-ended, state-closed, state-idle}
use Rattle.h2_record.proofs.LiveLaws.{live-opened, live-within}
use Rattle.h2_conn.proofs.ResetLemmas.{waits-here, waits-elsewhere, waits-live}
use Rattle.h2_record.proofs.KeptLaws.{is_keeping, kept-out}
use Rattle.h2_conn.proofs.OutLemmas.{streams-out}
use Rattle.h2_conn.proofs.DueTexts.{headers-text}
use Rattle.h2_conn.proofs.OutSteps.{out_after, stands-out}
use Rattle.h2_conn.proofs.CloseOut.{OutOnLive, reset-shut-out, out-reset, out-ended, changes-twice, stands-close}

-- ---- a head or a tail waits on live streams alone

head-live : (r : Record) (id : ℕ) (waiting : Waiting) (head : Head) (live : Bool) → WaitsBy live r id waiting → waiting.head ≡ Some head → live ≡ true
head-live r id waiting head true w here = refl
head-live r id waiting head false w here = let none : waiting.head ≡ None = ap (λ (w : Waiting). w.head) w.text in absurd (cc)

tail-live : (r : Record) (id : ℕ) (waiting : Waiting) (live : Bool) → WaitsBy live r id waiting → IsSome waiting.tail → live ≡ true
tail-live r id waiting true w there = refl
tail-live r id waiting false w there = absurd (true≢false (sym there ∙ ap (λ (w : Waiting). is_some w.tail) w.text))

-- ---- the head of an answer that goes on

module _ (r : Record) (id : ℕ) (headed : Bool) (heads : headed ≡ has_headed r) (waiting : Waiting) (head : Head) (here : waiting.head ≡ Some head) (goes : false ≡ head.end) where
  begins : Frame
  begins = frames.Headers id false true (block_of (not headed) (head_block waiting.head))

  waits-head : WaitsLive r id waiting → WaitsLive (Out begins ∷ r) id (record waiting { head = None })
  unfolding reset_behind is_live_with begins
  waits-head w =
      let behind : List Token = map Octet (concat waiting.replies) ++ tail_text waiting.tail ++ map Aborted waiting.resets in
      record {
        unreset = w.unreset;
        unfinished = w.unfinished;
        text = (λ i. (written_text r id ++ headers-text r id false headed (head_block waiting.head) heads i) ++ behind)
            ∙ (λ i. (written_text r id ++ Fields (goes i) (head_block (here i)) ∷ []) ++ behind)
            ∙ append_assoc (written_text r id) (Fields head.end head.block ∷ []) behind
            ∙ sym (ap (λ head. written_text r id ++ waiting_text (record waiting { head = head })) here) ∙ w.text;
        replies = w.replies;
      }

  streams-head : (streams : Book) (answers answers' : List (ℕ × Waiting)) → StreamsStand streams answers r → is_live r id ≡ true → waiting_on answers id ≡ waiting
      → ChangesOnly answers answers' id (record waiting { head = None }) → StreamsStand streams answers' (Out begins ∷ r)
  unfolding reset_behind is_live_with begins
  streams-head streams answers answers' s live is only =
      streams-out streams streams answers answers' r begins id None (record {
        made = refl;
        of = tt;
        on = λ other off. off;
        within = live-within r id live;
        last = refl;
        remembered = s.remembered;
        here = s.found id;
        others = λ other differ. refl;
        keys = s.live;
        waits = subst (λ (b : Bool). WaitsBy b (Out begins ∷ r) id (waiting_on answers' id)) (sym live)
            (subst (WaitsLive (Out begins ∷ r) id) (sym (waits-here answers answers' id (record waiting { head = None }) only))
            (waits-head (subst (WaitsLive r id) is (waits-live streams answers r id s live))));
        rest = waits-elsewhere answers answers' id (record waiting { head = None }) only;
      }) s

  stands-head : (c : Held) (answers : List (ℕ × Waiting)) (unwritten : ℕ) → Settled c r → is_live r id ≡ true → waiting_on c.answers id ≡ waiting
      → ChangesOnly c.answers answers id (record waiting { head = None })
      → OpenStands (out_after c c.window c.streams c.control c.kept true answers unwritten) (Out begins ∷ r)
  unfolding reset_behind is_live_with begins is_keeping
  stands-head c answers unwritten s live is only =
      stands-out c r begins c.window c.streams c.control c.kept true answers unwritten s s.window
      (streams-head c.streams c.answers answers s.streams live is only)
      (s.controls ∙ sym (append-nil (settled_control r)))
      (λ other. s.keeping other ∙ sym (kept-out r begins other refl))
      refl

-- ---- HEADERS that end the answer

-- a live id is odd, since each that was opened is
odd-by : (r : Record) (stream id : ℕ) (end whole : Bool) (fragment : List ℕ) (same : Bool) → (id == stream) ≡ same → fault_by r (frames.Headers stream end whole fragment) ≡ None
    → (any_in (opens id) r ≡ true → (id % 2 == 0) ≡ false) → (same || any_in (opens id) r) ≡ true → (id % 2 == 0) ≡ false
odd-by r stream id end whole fragment true same none before opened =
    let frame = frames.Headers stream end whole fragment in
    subst (λ (n : ℕ). (n % 2 == 0) ≡ false) (sym (same-eq id stream same))
    (not-even (has_begun r) (open_of r) (last_of r) stream end whole fragment
    (first-of (early_fault (has_begun r) (open_of r) (last_of r) frame) (late_fault r frame) (sym (fault-split r frame) ∙ none)))
odd-by r stream id end whole fragment false apart none before opened = before opened

opened-odd : (r : Record) (id : ℕ) → first_fault_of r ≡ None → any_in (opens id) r ≡ true → (id % 2 == 0) ≡ false
opened-odd [] id sound opened = absurd (true≢false (sym opened))
opened-odd (In (frames.Headers stream end whole fragment) ∷ r) id sound opened =
    let frame = frames.Headers stream end whole fragment in
    odd-by r stream id end whole fragment (id == stream) refl (second-of (first_fault_of r) (fault_by r frame) sound) (opened-odd r id (first-of (first_fault_of r) (fault_by r frame) sound)) opened
opened-odd (In frame ∷ r) id sound opened = opened-odd r id (first-of (first_fault_of r) (fault_by r frame) sound) opened
opened-odd (Out frame ∷ r) id sound opened = opened-odd r id sound opened
opened-odd (Given stream part ∷ r) id sound opened = opened-odd r id sound opened
opened-odd (Whole ∷ r) id sound opened = opened-odd r id sound opened
opened-odd (Broken fault ∷ r) id sound opened = opened-odd r id (first-of (first_fault_of r) (Some fault) sound) opened

pub live-begun : (r : Record) (id : ℕ) → first_fault_of r ≡ None → is_live r id ≡ true → is_idle_above (last_of r) id ≡ false
live-begun r id sound live =
    or-none (id % 2 == 0) (nat_lt (last_of r) id) (opened-odd r id sound (live-opened (resets_of r) r id live)) (lt-no (last_of r) id (live-within r id live))

module _ (r : Record) (id : ℕ) (block : List ℕ) where
  finishing : Frame
  finishing = frames.Headers id true true block

  -- the client has not ended: a reset is due
  made-reset : is_live r id ≡ true → any_in (ends id) r ≡ false → reset_behind (resets_of r) r finishing ≡ first_reset id no_error
  unfolding reset_behind finishing
  made-reset live going = λ i. if live i && not (going i) then first_reset id no_error else None

  -- it has: none is
  made-none : is_live r id ≡ true → any_in (ends id) r ≡ true → reset_behind (resets_of r) r finishing ≡ None
  unfolding reset_behind finishing
  made-none live ended = λ i. if live i && not (ended i) then first_reset id no_error else None

  finished : any_in (ends id) r ≡ true → is_live (Out finishing ∷ r) id ≡ false
  unfolding is_live_with finishing
  finished ended =
      let a = any_in (opens id) r && not (0 == id) && not (is_reset (resets_of (Out finishing ∷ r)) id) && not (any_in (cancels id) r) in
      (λ i. a && not (ended i && (same-self id i || any_out (finishes id) r))) ∙ and-false a

  module _ (old new : Held) (between : List (ℕ × Waiting)) (unwritten : ℕ) (behind : Waiting) (s : Settled old r) (live : is_live r id ≡ true) (taken : ChangesOnly old.answers between id behind) where
    abbrev held : Held
    held = record old { answers = between; unwritten = unwritten; has_headed = true }

    finishes-live : any_in (ends id) r ≡ false → Refuses held id no_error new → OpenStands new (Out finishing ∷ r)
    unfolding finishing
    finishes-live going f =
        let o : OutOnLive r finishing id (first_reset id no_error) = record { live = live; made = made-reset live going; of = refl; on = λ other off. off } in
        let unreset = (waits-live old.streams old.answers r id s.streams live).unreset in
        let goes = out-reset old.streams new.streams old.answers new.answers r finishing id s.streams no_error (no_error ∷ []) o f.streams
        (changes-twice old.answers between new.answers id behind (record nothing { resets = no_error ∷ [] }) taken f.answers) (ap (λ codes. codes ++ no_error ∷ []) unreset) in
        subst (λ (c : Held). OpenStands c (Out finishing ∷ r)) (sym f.rest)
        (stands-close old r finishing id (first_reset id no_error) new.streams new.kept true new.answers unwritten s goes o
        (reset-shut-out r finishing id no_error o.made) refl refl refl f.kept refl)

    finishes-ended : any_in (ends id) r ≡ true → Closes held id (without old.streams id) new → OpenStands new (Out finishing ∷ r)
    unfolding finishing
    finishes-ended ended f =
        let o : OutOnLive r finishing id None = record { live = live; made = made-none live ended; of = tt; on = λ other off. off } in
        let unreset = (waits-live old.streams old.answers r id s.streams live).unreset in
        let goes = out-ended old.streams new.streams old.answers new.answers r finishing id s.streams (finished ended) o f.streams_are
        (changes-twice old.answers between new.answers id behind nothing taken f.answers) unreset in
        subst (λ (c : Held). OpenStands c (Out finishing ∷ r)) (sym f.rest)
        (stands-close old r finishing id None new.streams new.kept true new.answers unwritten s goes o (finished ended) refl refl refl f.kept refl)

    finishes-by : (state : StreamState) → state_of r id ≡ state → FinishesBy state held id new → OpenStands new (Out finishing ∷ r)
    finishes-by is.Live state f = finishes-live (state-live r id state).1 f
    finishes-by is.Ended state f = finishes-ended (state-ended r id state).1 f
    finishes-by is.Idle state f = absurd (true≢false (sym (state-idle r id state) ∙ live-begun r id s.sound live))
    finishes-by (is.Closed was) state f = absurd (true≢false (sym live ∙ (state-closed r id was state).0))

    finishes-stands : Finishes held id new → OpenStands new (Out finishing ∷ r)
    finishes-stands f = finishes-by (state_in old.streams id) (sym (state-settled old.streams old.answers r id s.streams)) f

-- ---- a head and a tail

-- what is left, from what is taken
left-by : (old new : Held) (due : Due) (bytes : List ℕ) (g : PartGoes old due bytes new) → LeavesPart due.part (record old { answers = g.taken.answers; unwritten = old.unwritten + length bytes }) due.stream new
left-by old new due bytes g = subst (λ (taken : Held). LeavesPart due.part taken due.stream new) g.takes.rest g.leaves

pub head-stands : (old new : Held) (id : ℕ) (end : Bool) (bytes : List ℕ) (r : Record) → Settled old r → IsAhead old.answers (record { stream = id; part = part.Head end })
    → PartGoes old (record { stream = id; part = part.Head end }) bytes new → OpenStands new (Out (part_frame old (record { stream = id; part = part.Head end })) ∷ r)
unfolding begins finishing
head-stands old new id false bytes r s ahead g =
    let due : Due = record { stream = id; part = part.Head false } in
    let waiting = waiting_on old.answers id in
    let live = head-live r id waiting ahead.0 (is_live r id) (s.streams.waits id) ahead.1 in
    subst (λ (c : Held). OpenStands c (Out (part_frame old due) ∷ r)) (sym (left-by old new due bytes g))
    (stands-head r id old.has_headed s.headed waiting ahead.0 ahead.1 ahead.2 old g.taken.answers (old.unwritten + length bytes) s live refl g.takes.answers)
head-stands old new id true bytes r s ahead g =
    let due : Due = record { stream = id; part = part.Head true } in
    let waiting = waiting_on old.answers id in
    let live = head-live r id waiting ahead.0 (is_live r id) (s.streams.waits id) ahead.1 in
    finishes-stands r id (block_of (not old.has_headed) (head_block waiting.head)) old new g.taken.answers (old.unwritten + length bytes) (waiting_behind old.answers due) s live g.takes.answers
    (left-by old new due bytes g)

pub tail-stands : (old new : Held) (id : ℕ) (bytes : List ℕ) (r : Record) → Settled old r → IsAhead old.answers (record { stream = id; part = part.Tail })
    → PartGoes old (record { stream = id; part = part.Tail }) bytes new → OpenStands new (Out (part_frame old (record { stream = id; part = part.Tail })) ∷ r)
unfolding finishing
tail-stands old new id bytes r s ahead g =
    let due : Due = record { stream = id; part = part.Tail } in
    let waiting = waiting_on old.answers id in
    let live = tail-live r id waiting (is_live r id) (s.streams.waits id) ahead.2 in
    finishes-stands r id (block_of (not old.has_headed) (unwrap_or waiting.tail [])) old new g.taken.answers (old.unwritten + length bytes) (waiting_behind old.answers due) s live g.takes.answers
    (left-by old new due bytes g)
