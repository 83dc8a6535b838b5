-- Frames on a stream that is closed, and stays so.
use Rattle.std.proofs.Common.{◌≡◌, ℕ, ◌≤◌, ◌==◌, Bool, false, List, ◌∷◌, filter, Option, sym, ap, subst, ◌∙◌, arith}
use Rattle.std.specs.Map.{keys_of}
use Rattle.h2_frames.specs.declared.frame.Frame.{Frame}
use Rattle.h2_streams.specs.Book.{Book, find}
use Rattle.h2_answers.specs.Waiting.{Waiting, waiting_on}
use Rattle.h2_record.specs.Record.{Record, In}
use Rattle.h2_record.specs.Windows.{initial_of}
use Rattle.h2_record.specs.Ids.{last_of, begun_of}
use Rattle.h2_record.specs.Live.{Reset, remembered_in, entry_of}
use Rattle.h2_record.specs.Resets.{reset_by, with_reset, resets_of, is_live}
use Rattle.h2_record.specs.Fresh.{is_on}
use Rattle.h2_conn.specs.Stands.{StreamsStand}
use Rattle.h2_conn.specs.Waits.{WaitsBy, WaitsClosed}
use Rattle.h2_record.proofs.BoolLemmas.{apart-flip, same-eq, by-test}
use Rattle.h2_record.proofs.LiveLemmas.{filter-same}
use Rattle.h2_conn.proofs.TouchLemmas.{TouchesOne}
use Rattle.h2_record.proofs.ApartLemmas.{IsOf, away-of, live-other}
use Rattle.h2_conn.proofs.CloseLemmas.{found-none}

-- What is known of a frame on a closed stream that was begun.
pub record OnShut (r : Record) (frame : Frame) (id : ℕ) (x : Option Reset) : Type 0 where
  pub shut : is_live r id ≡ false
  pub still : is_live (In frame ∷ r) id ≡ false
  pub made : reset_by (resets_of r) r frame ≡ x
  pub of : IsOf x id
  pub on : (other : ℕ) → (other == id) ≡ false → is_on other frame ≡ false
  pub steady : initial_of (In frame ∷ r) ≡ initial_of r
  pub begun : begun_of (In frame ∷ r) ≡ begun_of r
  pub last : last_of (In frame ∷ r) ≡ last_of r
  pub within : id ≤ last_of r

module _ (streams streams' : Book) (answers answers' : List (ℕ × Waiting)) (r : Record) (frame : Frame) (id : ℕ) (x : Option Reset) (s : StreamsStand streams answers r) (o : OnShut r frame id x) where
  pub touch-shut : streams'.live ≡ streams.live → streams'.last ≡ streams.last → streams'.resets ≡ remembered_in (with_reset (resets_of r) x)
      → WaitsClosed (In frame ∷ r) id (waiting_on answers' id) → ((other : ℕ) → (id == other) ≡ false → waiting_on answers' other ≡ waiting_on answers other)
      → TouchesOne streams streams' answers answers' r frame id x
  touch-shut same last remembered waits rest = record {
    made = o.made;
    of = o.of;
    on = o.on;
    steady = o.steady;
    last = last ∙ s.last ∙ sym o.last;
    rises = omega (arith, o.last);
    within = omega (arith, o.last, o.within);
    remembered = remembered;
    here = ap (λ live. find (record streams { live = live }) id) same ∙ s.found id ∙ found-none (is_live r id) (entry_of r id) o.shut ∙ sym (found-none (is_live (In frame ∷ r) id) (entry_of (In frame ∷ r) id) o.still);
    others = λ other differ. ap (λ live. find (record streams { live = live }) other) same;
    keys = ap (λ live. keys_of live) same ∙ s.live ∙ filter-same (is_live r) (is_live (In frame ∷ r)) (begun_of r) stays ∙ ap (filter (is_live (In frame ∷ r))) (sym o.begun);
    waits = subst (λ (live : Bool). WaitsBy live (In frame ∷ r) id (waiting_on answers' id)) (sym o.still) waits;
    rest = rest;
  }
    where
      stays : (other : ℕ) → is_live r other ≡ is_live (In frame ∷ r) other
      stays other = by-test (id == other)
          (λ same. subst (λ (o : ℕ). is_live r o ≡ is_live (In frame ∷ r) o) (same-eq id other same) (o.shut ∙ sym o.still))
          (λ differ. let off = apart-flip id other differ in sym (live-other r frame x o.made other (o.on other off) (away-of x id other o.of off)))
