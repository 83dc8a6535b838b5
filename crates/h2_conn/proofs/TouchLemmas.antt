-- A frame that came on one stream leaves all others as they were.
use Rattle.std.proofs.Common.{◌≡◌, ℕ, ◌<◌, ◌≤◌, ◌==◌, Bool, false, List, ◌∷◌, Option, sym, ap, subst, ◌∙◌, arith}
use Rattle.std.specs.Map.{keys_of}
use Rattle.h2_frames.specs.declared.frame.Frame.{Frame}
use Rattle.h2_streams.specs.Book.{Book, find}
use Rattle.h2_answers.specs.Waiting.{Waiting, waiting_on}
use Rattle.h2_record.specs.Record.{Record, In}
use Rattle.h2_record.specs.Windows.{initial_of}
use Rattle.h2_record.specs.Ids.{last_of}
use Rattle.h2_record.specs.Live.{Reset, remembered_in}
use Rattle.h2_record.specs.Resets.{reset_by, with_reset, resets_of, is_live, stream_of, live_of}
use Rattle.h2_record.specs.Fresh.{is_on, is_spoken}
use Rattle.h2_conn.specs.Stands.{StreamsStand}
use Rattle.h2_conn.specs.Waits.{WaitsBy}
use Rattle.h2_record.proofs.BoolLemmas.{or-none, apart-above, apart-flip, same-eq, by-test}
use Rattle.h2_conn.proofs.QuietLemmas.{waits-in}
use Rattle.h2_record.proofs.ApartLemmas.{IsAway, IsOf, away-of, is_reset-other, codes-other, live-other, unwritten-other, found-other}

module _ (r : Record) (frame : Frame) (x : Option Reset) (made : reset_by (resets_of r) r frame ≡ x) (other : ℕ) (off : is_on other frame ≡ false) (away : IsAway x other) where
  pub waits-other : (waiting : Waiting) → WaitsBy (is_live r other) r other waiting → WaitsBy (is_live (In frame ∷ r) other) (In frame ∷ r) other waiting
  waits-other waiting w =
      subst (λ (live : Bool). WaitsBy live (In frame ∷ r) other waiting) (sym (live-other r frame x made other off away)) (waits-in r frame other waiting (is_live r other) (unwritten-other r frame x made other off away) (codes-other r frame x made other off away) w)

-- What a frame on one stream leaves: that stream is seen to, and the others are as they were.
pub record TouchesOne (streams streams' : Book) (answers answers' : List (ℕ × Waiting)) (r : Record) (frame : Frame) (id : ℕ) (x : Option Reset) : Type 0 where
  pub made : reset_by (resets_of r) r frame ≡ x
  pub of : IsOf x id
  pub on : (other : ℕ) → (other == id) ≡ false → is_on other frame ≡ false
  pub steady : initial_of (In frame ∷ r) ≡ initial_of r
  pub last : streams'.last ≡ last_of (In frame ∷ r)
  pub rises : last_of r ≤ last_of (In frame ∷ r)
  pub within : id ≤ last_of (In frame ∷ r)
  pub remembered : streams'.resets ≡ remembered_in (with_reset (resets_of r) x)
  pub here : find streams' id ≡ stream_of (In frame ∷ r) id
  pub others : (other : ℕ) → (id == other) ≡ false → find streams' other ≡ find streams other
  pub keys : keys_of streams'.live ≡ live_of (In frame ∷ r)
  pub waits : WaitsBy (is_live (In frame ∷ r) id) (In frame ∷ r) id (waiting_on answers' id)
  pub rest : (other : ℕ) → (id == other) ≡ false → waiting_on answers' other ≡ waiting_on answers other

pub streams-touch : (streams streams' : Book) (answers answers' : List (ℕ × Waiting)) (r : Record) (frame : Frame) (id : ℕ) (x : Option Reset)
    → TouchesOne streams streams' answers answers' r frame id x → StreamsStand streams answers r → StreamsStand streams' answers' (In frame ∷ r)
streams-touch streams streams' answers answers' r frame id x t s = record {
  last = t.last;
  remembered = t.remembered ∙ sym (ap remembered_in (ap (with_reset (resets_of r)) t.made));
  found = λ other. by-test (id == other)
      (λ same. subst (λ (o : ℕ). find streams' o ≡ stream_of (In frame ∷ r) o) (same-eq id other same) t.here)
      (λ differ. let off = apart-flip id other differ in
      t.others other differ ∙ s.found other ∙ sym (found-other r frame x t.made other (t.on other off) (away-of x id other t.of off) t.steady));
  live = t.keys;
  waits = λ other. by-test (id == other)
      (λ same. subst (λ (o : ℕ). WaitsBy (is_live (In frame ∷ r) o) (In frame ∷ r) o (waiting_on answers' o)) (same-eq id other same) t.waits)
      (λ differ. let off = apart-flip id other differ in
      subst (λ (w : Waiting). WaitsBy (is_live (In frame ∷ r) other) (In frame ∷ r) other w) (sym (t.rest other differ))
      (waits-other r frame x t.made other (t.on other off) (away-of x id other t.of off) (waiting_on answers other) (s.waits other)));
  fresh = λ other above. let a : last_of r < other = omega (arith, t.rises) in
      let f = s.fresh other a in
      let off = apart-above other id (omega (arith, t.within)) in
      (or-none (is_on other frame) (is_spoken r other) (t.on other off) f.0, is_reset-other r frame x t.made other (t.on other off) (away-of x id other t.of off) ∙ f.1);
}
