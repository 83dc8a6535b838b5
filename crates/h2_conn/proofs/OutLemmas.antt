-- A frame that went on one stream leaves all others as they were.
use Rattle.std.proofs.Common.{◌≡◌, ℕ, ◌+◌, ◌≤◌, ◌==◌, Bool, true, false, not, ◌&&◌, ◌||◌, List, [], ◌∷◌, ◌++◌, map, length, drop, Option, None, Some, pos, ◌-ℤ◌, refl, sym, ap, subst, ◌∙◌, arith, append-nil, if◌then◌else◌}
use Rattle.std.specs.Map.{keys_of}
use Rattle.h2_frames.specs.declared.frame.Frame.{Frame}
use Rattle.h2_frames.specs.declared.frame.Frame.TheVariants as frames
use Rattle.h2_streams.specs.Book.{Book, find}
use Rattle.h2_answers.specs.Replies.{drop_bytes}
use Rattle.h2_answers.specs.Waiting.{Waiting, waiting_on}
use Rattle.h2_record.specs.Record.{Record, Out, any_in, any_out, sum_in, sum_out}
use Rattle.h2_record.specs.Windows.{with_increment, with_payload, with_data, initial_of, first_window, data_out}
use Rattle.h2_record.specs.Ids.{last_of}
use Rattle.h2_record.specs.Live.{Reset, opens, ends, finishes, cancels, is_reset, is_live_with, remembered_in}
use Rattle.h2_record.specs.Resets.{reset_behind, with_reset, resets_of, is_live, is_open, stream_of, live_of}
use Rattle.h2_record.specs.Replies.{unwritten_of, replies_of}
use Rattle.h2_record.specs.Texts.{Fields, Octet, Aborted, has_headed, written_text, frame_text, written_codes, codes_on}
use Rattle.h2_record.specs.Fresh.{is_on, is_spoken}
use Rattle.h2_conn.specs.Stands.{StreamsStand}
use Rattle.h2_conn.specs.Waits.{waiting_text, WaitsBy}
use Rattle.h2_record.proofs.BoolLemmas.{or-none, apart-above, apart-flip, same-eq, by-test}
use Rattle.h2_record.proofs.ApartLemmas.{apart, finishes-off, is_reset-away, codes-away, IsAway, IsOf, away-of}

-- a frame that isn't on the id
data-off : (id : ℕ) (frame : Frame) (sum : ℕ) → is_on id frame ≡ false → with_data id frame sum ≡ sum
data-off id (frames.Body stream end bytes counted) sum off = λ i. if off i then sum + length bytes else sum
data-off id frame sum off = refl

text-off : (r : Record) (id : ℕ) (frame : Frame) → is_on id frame ≡ false → frame_text r id frame ≡ []
text-off r id (frames.Headers stream end whole block) off = λ i. if off i then Fields end (drop (if has_headed r then 0 else 1) block) ∷ [] else []
text-off r id (frames.Body stream end bytes counted) off = λ i. if off i then map Octet bytes else []
text-off r id (frames.Reset stream code) off = λ i. if off i && is_live r id then Aborted code ∷ [] else []
text-off r id frame off = refl

codes-off : (r : Record) (id : ℕ) (frame : Frame) → is_on id frame ≡ false → written_codes (Out frame ∷ r) id ≡ written_codes r id
codes-off r id (frames.Reset stream code) off = λ i. if off i then written_codes r id ++ code ∷ [] else written_codes r id
codes-off r id frame off = refl

module _ (r : Record) (frame : Frame) (x : Option Reset) (made : reset_behind (resets_of r) r frame ≡ x) (other : ℕ) (off : is_on other frame ≡ false) (away : IsAway x other) where
  resets-made : resets_of (Out frame ∷ r) ≡ with_reset (resets_of r) x
  resets-made = ap (with_reset (resets_of r)) made

  is_reset-other : is_reset (resets_of (Out frame ∷ r)) other ≡ is_reset (resets_of r) other
  is_reset-other = ap (λ resets. is_reset resets other) resets-made ∙ is_reset-away x (resets_of r) other away

  codes-other : codes_on (resets_of (Out frame ∷ r)) other ≡ codes_on (resets_of r) other
  codes-other = ap (λ resets. codes_on resets other) resets-made ∙ codes-away x (resets_of r) other away

  pub live-out : is_live (Out frame ∷ r) other ≡ is_live r other
  unfolding is_live_with
  live-out = let fin = finishes-off other frame off in
      λ i. any_in (opens other) r && not (0 == other) && not (is_reset-other i) && not (any_in (cancels other) r)
      && not (any_in (ends other) r && (fin i || any_out (finishes other) r))

  pub open-out : is_open (Out frame ∷ r) other ≡ is_open r other
  open-out = λ i. live-out i && not (any_in (ends other) r)

  pub unwritten-out : unwritten_of (Out frame ∷ r) other ≡ unwritten_of r other
  unwritten-out = λ i. if live-out i then drop_bytes (data-off other frame (data_out r other) off i) (replies_of r other) else []

  found-out : stream_of (Out frame ∷ r) other ≡ stream_of r other
  found-out = let a = apart other frame off in let fin = finishes-off other frame off in
      λ i. if live-out i then Some (record {
        send = pos (sum_in (with_increment other) (initial_of r) r) -ℤ pos (data-off other frame (data_out r other) off i);
        receive = pos (a.increments (sum_out (with_increment other) first_window r) i) -ℤ pos (sum_in (with_payload other) 0 r);
        ended = any_in (ends other) r;
        answered = fin i || any_out (finishes other) r;
      }) else None

  waits-out : (waiting : Waiting) (live : Bool) → WaitsBy live r other waiting → WaitsBy live (Out frame ∷ r) other waiting
  waits-out waiting true w = record {
    unreset = codes-off r other frame off ∙ w.unreset;
    unfinished = λ going. or-none (finishes other frame) (any_out (finishes other) r) (finishes-off other frame off) (w.unfinished going);
    text = (λ i. (written_text r other ++ text-off r other frame off i) ++ waiting_text waiting) ∙ (λ i. append-nil (written_text r other) i ++ waiting_text waiting) ∙ w.text;
    replies = w.replies ∙ sym unwritten-out;
  }
  waits-out waiting false w = record {
    text = w.text;
    resets = (λ i. codes-off r other frame off i ++ waiting.resets) ∙ w.resets ∙ sym codes-other;
  }

-- What a frame that goes on one stream leaves: that stream is seen to, and the others are as they were.
pub record GoesOn (streams streams' : Book) (answers answers' : List (ℕ × Waiting)) (r : Record) (frame : Frame) (id : ℕ) (x : Option Reset) : Type 0 where
  pub made : reset_behind (resets_of r) r frame ≡ x
  pub of : IsOf x id
  pub on : (other : ℕ) → (other == id) ≡ false → is_on other frame ≡ false
  pub within : id ≤ last_of r
  pub last : streams'.last ≡ streams.last
  pub remembered : streams'.resets ≡ remembered_in (with_reset (resets_of r) x)
  pub here : find streams' id ≡ stream_of (Out frame ∷ r) id
  pub others : (other : ℕ) → (id == other) ≡ false → find streams' other ≡ find streams other
  pub keys : keys_of streams'.live ≡ live_of (Out frame ∷ r)
  pub waits : WaitsBy (is_live (Out frame ∷ r) id) (Out frame ∷ r) id (waiting_on answers' id)
  pub rest : (other : ℕ) → (id == other) ≡ false → waiting_on answers' other ≡ waiting_on answers other

pub streams-out : (streams streams' : Book) (answers answers' : List (ℕ × Waiting)) (r : Record) (frame : Frame) (id : ℕ) (x : Option Reset)
    → GoesOn streams streams' answers answers' r frame id x → StreamsStand streams answers r → StreamsStand streams' answers' (Out frame ∷ r)
streams-out streams streams' answers answers' r frame id x t s = record {
  last = t.last ∙ s.last;
  remembered = t.remembered ∙ sym (ap remembered_in (ap (with_reset (resets_of r)) t.made));
  found = λ other. by-test (id == other)
      (λ same. subst (λ (o : ℕ). find streams' o ≡ stream_of (Out frame ∷ r) o) (same-eq id other same) t.here)
      (λ differ. let off = apart-flip id other differ in
      t.others other differ ∙ s.found other ∙ sym (found-out r frame x t.made other (t.on other off) (away-of x id other t.of off)));
  live = t.keys;
  waits = λ other. by-test (id == other)
      (λ same. subst (λ (o : ℕ). WaitsBy (is_live (Out frame ∷ r) o) (Out frame ∷ r) o (waiting_on answers' o)) (same-eq id other same) t.waits)
      (λ differ. let off = apart-flip id other differ in
      subst (λ (w : Waiting). WaitsBy (is_live (Out frame ∷ r) other) (Out frame ∷ r) other w) (sym (t.rest other differ))
      (subst (λ (live : Bool). WaitsBy live (Out frame ∷ r) other (waiting_on answers other)) (sym (live-out r frame x t.made other (t.on other off) (away-of x id other t.of off)))
      (waits-out r frame x t.made other (t.on other off) (away-of x id other t.of off) (waiting_on answers other) (is_live r other) (s.waits other))));
  fresh = λ other above.
      let off = apart-above other id (omega (arith, t.within)) in (
        or-none (is_on other frame) (is_spoken r other) (t.on other off) (s.fresh other above).0,
        is_reset-other r frame x t.made other (t.on other off) (away-of x id other t.of off) ∙ (s.fresh other above).1,
      );
}
