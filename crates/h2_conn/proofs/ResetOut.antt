-- What a reset that went leaves of a connection.
use Rattle.std.proofs.Common.{◌≡◌, ℕ, ◌+◌, ◌≤◌, nat_lt, Bool, true, false, not, ◌&&◌, List, [], ◌∷◌, ◌++◌, length, drop, Option, None, Some, refl, sym, ap, subst, ◌∙◌, arith, length-append, append-nil, append_assoc, if◌then◌else◌}
use Rattle.h2_frames.specs.declared.frame.Frame.{Frame}
use Rattle.h2_frames.specs.declared.frame.Frame.TheVariants as frames
use Rattle.h2_streams.specs.declared.stream.Stream.{Stream}
use Rattle.h2_streams.specs.Book.{Book, find, without_reset}
use Rattle.h2_answers.specs.declared.part.Part.TheVariants as part
use Rattle.h2_answers.specs.Replies.{drop_bytes}
use Rattle.h2_answers.specs.Waiting.{Waiting, waiting_on, nothing, ChangesOnly}
use Rattle.h2_answers.specs.Due.{IsNext, IsAhead}
use Rattle.h2_record.specs.Record.{Record, Out, any_in}
use Rattle.h2_record.specs.Windows.{data_out}
use Rattle.h2_record.specs.Ids.{last_of, begun_of}
use Rattle.h2_record.specs.Live.{Reset, ends, is_live_with, entry_of}
use Rattle.h2_record.specs.Resets.{reset_behind, with_reset, resets_of, is_live}
use Rattle.h2_record.specs.Refusals.{first_reset}
use Rattle.h2_record.specs.Replies.{replies_of}
use Rattle.h2_record.specs.Credits.{most_waiting, kept_of}
use Rattle.h2_record.specs.Texts.{codes_on, written_codes}
use Rattle.h2_conn.specs.Held.{Held}
use Rattle.h2_conn.specs.Stands.{StreamsStand, OpenStands}
use Rattle.h2_conn.specs.Waits.{WaitsBy, WaitsClosed}
use Rattle.h2_record.specs.Settling.{settled_control, settled_kept}
use Rattle.h2_conn.specs.Taking.{Settled}
use Rattle.h2_conn.specs.Parts.{part_frame, PartGoes, Closes, ResetsBy, ResetsOf}
use Rattle.h2_record.proofs.BoolLemmas.{lt-true, lt-false, same-self, by-test}
use Rattle.h2_record.proofs.LiveLemmas.{filter-same}
use Rattle.h2_record.proofs.LiveLaws.{codes-none}
use Rattle.h2_conn.proofs.ResetLemmas.{waits-live, waits-here, waits-elsewhere}
use Rattle.h2_record.proofs.KeptLaws.{is_keeping, kept-out}
use Rattle.h2_conn.proofs.OutLemmas.{GoesOn, streams-out}
use Rattle.h2_conn.proofs.OutSteps.{stands-out}
use Rattle.h2_conn.proofs.CloseOut.{OutOnLive, reset-shut-out, out-reset, changes-twice, stands-close}

-- a stream that is found lives, and one that isn't doesn't
live-some : (live : Bool) (entry stream : Stream) → (if live then Some entry else None) ≡ Some stream → live ≡ true
live-some true entry stream found = refl
live-some false entry stream found = absurd (cc)

shut-none : (live : Bool) (entry : Stream) → (if live then Some entry else None) ≡ None → live ≡ false
shut-none true entry found = absurd (cc)
shut-none false entry found = refl

codes-here : (r : Record) (id code : ℕ) → written_codes (Out (frames.Reset id code) ∷ r) id ≡ written_codes r id ++ code ∷ []
codes-here r id code = λ i. if same-self id i then written_codes r id ++ code ∷ [] else written_codes r id

-- ---- on a live stream

made-live : (r : Record) (id code : ℕ) → is_live r id ≡ true → reset_behind (resets_of r) r (frames.Reset id code) ≡ Some (record { stream = id; code = code; is_first = true })
unfolding reset_behind
made-live r id code live = λ i. if live i then first_reset id code else None

module _ (old : Held) (r : Record) (id code : ℕ) (answers : List (ℕ × Waiting)) (unwritten : ℕ) (behind : Waiting) (s : Settled old r) (only : ChangesOnly old.answers answers id behind) where
  closing : is_live r id ≡ true → (new : Held) → Closes (record old { answers = answers; unwritten = unwritten }) id (without_reset old.streams id) new
      → OpenStands new (Out (frames.Reset id code) ∷ r)
  closing live new closes =
      let frame : Frame = frames.Reset id code in
      let reset : Reset = record { stream = id; code = code; is_first = true } in
      let o : OutOnLive r frame id (Some reset) = record { live = live; made = made-live r id code live; of = refl; on = λ other off. off } in
      let waits = waits-live old.streams old.answers r id s.streams live in
      let goes = out-reset old.streams new.streams old.answers new.answers r frame id s.streams code [] o closes.streams_are
      (changes-twice old.answers answers new.answers id behind nothing only closes.answers)
      (append-nil (written_codes (Out frame ∷ r) id) ∙ codes-here r id code ∙ ap (λ codes. codes ++ code ∷ []) waits.unreset) in
      subst (λ (c : Held). OpenStands c (Out frame ∷ r)) (sym closes.rest)
      (stands-close old r frame id (Some reset) new.streams new.kept old.has_headed new.answers unwritten s goes o (reset-shut-out r frame id code o.made) refl refl refl closes.kept s.headed)

-- ---- on a closed one

-- Such a reset is no further one.
made-none : (r : Record) (id code : ℕ) → is_live r id ≡ false → reset_behind (resets_of r) r (frames.Reset id code) ≡ None
unfolding reset_behind
made-none r id code shut = λ i. if shut i then first_reset id code else None

module _ (r : Record) (id code : ℕ) (shut : is_live r id ≡ false) where
  resets-same : resets_of (Out (frames.Reset id code) ∷ r) ≡ resets_of r
  resets-same = ap (with_reset (resets_of r)) (made-none r id code shut)

  live-same : (other : ℕ) → is_live (Out (frames.Reset id code) ∷ r) other ≡ is_live r other
  unfolding is_live_with
  live-same other = ap (λ resets. is_live_with resets r other) resets-same

  kept-same : (other : ℕ) → kept_of (Out (frames.Reset id code) ∷ r) other ≡ settled_kept r other
  unfolding is_keeping
  kept-same other = kept-out r (frames.Reset id code) other
      (λ i. (live-same other i && not (any_in (ends other) r)) && not (nat_lt (length (if live-same other i then drop_bytes (data_out r other) (replies_of r other) else [])) most_waiting))

  -- a reset waits on ids that were begun
  reset-within : (streams : Book) (answers : List (ℕ × Waiting)) → StreamsStand streams answers r → WaitsClosed r id (waiting_on answers id)
      → (waiting_on answers id).resets ≡ code ∷ drop 1 (waiting_on answers id).resets → id ≤ last_of r
  reset-within streams answers s w first = by-test (nat_lt (last_of r) id)
      (λ above.
      let f = s.fresh id (lt-true (last_of r) id above) in
      let none : length (written_codes r id ++ (waiting_on answers id).resets) ≡ 0 = ap length (w.resets ∙ codes-none (resets_of r) id f.1) in
      absurd (omega (arith, none, length-append (written_codes r id) (waiting_on answers id).resets, ap length first)))
      (λ below. lt-false (last_of r) id below)

  waits-shut : (waiting : Waiting) → WaitsClosed r id waiting → waiting.resets ≡ code ∷ drop 1 waiting.resets
      → WaitsClosed (Out (frames.Reset id code) ∷ r) id (record waiting { resets = drop 1 waiting.resets })
  waits-shut waiting w first = record {
    text = ap (λ (w : Waiting). record w { resets = drop 1 waiting.resets }) w.text;
    resets = ap (λ codes. codes ++ drop 1 waiting.resets) (codes-here r id code) ∙ append_assoc (written_codes r id) (code ∷ []) (drop 1 waiting.resets)
        ∙ ap (λ codes. written_codes r id ++ codes) (sym first) ∙ w.resets ∙ sym (ap (λ resets. codes_on resets id) resets-same);
  }

  goes-shut : (streams : Book) (answers answers' : List (ℕ × Waiting)) → StreamsStand streams answers r → (waiting_on answers id).resets ≡ code ∷ drop 1 (waiting_on answers id).resets
      → ChangesOnly answers answers' id (record (waiting_on answers id) { resets = drop 1 (waiting_on answers id).resets })
      → GoesOn streams streams answers answers' r (frames.Reset id code) id None
  goes-shut streams answers answers' s first only =
      let frame : Frame = frames.Reset id code in
      let waiting = waiting_on answers id in
      let behind : Waiting = record waiting { resets = drop 1 waiting.resets } in
      let w : WaitsClosed r id waiting = subst (λ (b : Bool). WaitsBy b r id waiting) shut (s.waits id) in
      record {
        made = made-none r id code shut;
        of = tt;
        on = λ other off. off;
        within = reset-within streams answers s w first;
        last = refl;
        remembered = s.remembered;
        here = s.found id ∙ sym (λ i. if live-same id i then Some (entry_of r id) else None);
        others = λ other differ. refl;
        keys = s.live ∙ filter-same (is_live r) (is_live (Out frame ∷ r)) (begun_of r) (λ other. sym (live-same other));
        waits = subst (λ (live : Bool). WaitsBy live (Out frame ∷ r) id (waiting_on answers' id)) (sym (live-same id ∙ shut))
            (subst (λ (w : Waiting). WaitsClosed (Out frame ∷ r) id w) (sym (waits-here answers answers' id behind only)) (waits-shut waiting w first));
        rest = waits-elsewhere answers answers' id behind only;
      }

-- ---- the whole connection

module _ (old : Held) (r : Record) (id code : ℕ) (answers : List (ℕ × Waiting)) (unwritten : ℕ) (s : Settled old r) (next : IsNext (waiting_on old.answers id) (part.Reset code))
    (only : ChangesOnly old.answers answers id (record (waiting_on old.answers id) { resets = drop 1 (waiting_on old.answers id).resets })) where
  passing : is_live r id ≡ false → OpenStands (record old { answers = answers; unwritten = unwritten }) (Out (frames.Reset id code) ∷ r)
  passing shut =
      let frame : Frame = frames.Reset id code in
      stands-out old r frame old.window old.streams old.control old.kept old.has_headed answers unwritten s s.window
      (streams-out old.streams old.streams old.answers answers r frame id None (goes-shut r id code shut old.streams old.answers answers s.streams next.3 only) s.streams)
      (s.controls ∙ sym (append-nil (settled_control r)))
      (λ other. s.keeping other ∙ sym (kept-same r id code shut other)) s.headed

  resetting : (found : Option Stream) → find old.streams id ≡ found → (new : Held) → ResetsBy found (record old { answers = answers; unwritten = unwritten }) id new
      → OpenStands new (Out (frames.Reset id code) ∷ r)
  resetting None none new same =
      subst (λ (c : Held). OpenStands c (Out (frames.Reset id code) ∷ r)) (sym same) (passing (shut-none (is_live r id) (entry_of r id) (sym (s.streams.found id) ∙ none)))
  resetting (Some stream) some new closes =
      closing old r id code answers unwritten (record (waiting_on old.answers id) { resets = drop 1 (waiting_on old.answers id).resets }) s only
      (live-some (is_live r id) (entry_of r id) stream (sym (s.streams.found id) ∙ some)) new closes

pub reset-stands : (old new : Held) (id code : ℕ) (bytes : List ℕ) (r : Record) → Settled old r → IsAhead old.answers (record { stream = id; part = part.Reset code })
    → PartGoes old (record { stream = id; part = part.Reset code }) bytes new → OpenStands new (Out (part_frame old (record { stream = id; part = part.Reset code })) ∷ r)
reset-stands old new id code bytes r s next goes =
    resetting old r id code goes.taken.answers (old.unwritten + length bytes) s next goes.takes.answers (find old.streams id) refl new
    (subst (λ (taken : Held). ResetsOf taken id new) goes.takes.rest goes.leaves)
