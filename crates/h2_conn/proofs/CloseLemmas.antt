-- A frame that closes a live stream, and one that leaves it live.
use Rattle.std.proofs.Common.{◌≡◌, ℕ, nat_eq, ◌==◌, Bool, true, false, not, cond, ◌&&◌, List, ◌∷◌, filter, Option, None, Some, IsSome, refl, sym, ap, subst, ◌∙◌, arith, true≢false, if◌then◌else◌}
use Rattle.std.specs.List.{IsDistinct}
use Rattle.std.specs.Map.{keys_of, lookup, remove_entry, set_value}
use Rattle.std.proofs.lemmas.Cmp.{nat_eq_equiv}
use Rattle.std.proofs.lemmas.Map.{lookup-remove_entry, lookup-set_value, keys-set_value}
use Rattle.h2_frames.specs.declared.frame.Frame.{Frame}
use Rattle.h2_streams.specs.declared.stream.Stream.{Stream}
use Rattle.h2_streams.specs.Book.{Book, find}
use Rattle.h2_answers.specs.Waiting.{Waiting, waiting_on}
use Rattle.h2_record.specs.Record.{Record, In}
use Rattle.h2_record.specs.Windows.{initial_of}
use Rattle.h2_record.specs.Ids.{last_of, begun_of}
use Rattle.h2_record.specs.Live.{Reset, remembered_in, entry_of}
use Rattle.h2_record.specs.Resets.{reset_by, with_reset, resets_of, is_live}
use Rattle.h2_record.specs.Fresh.{is_on}
use Rattle.h2_conn.specs.Stands.{StreamsStand}
use Rattle.h2_conn.specs.Waits.{WaitsBy, WaitsLive, WaitsClosed}
use Rattle.h2_record.proofs.BoolLemmas.{and-true, and-false, apart-flip, same-eq, same-self, by-test}
use Rattle.h2_record.proofs.LiveLemmas.{distinct-begun, distinct-filter, filter-same, keys-closed}
use Rattle.h2_conn.proofs.TouchLemmas.{TouchesOne}
use Rattle.h2_record.proofs.ApartLemmas.{IsOf, away-of, live-other}
use Rattle.h2_record.proofs.LiveLaws.{live-within}

one-id : (x y : ℕ) (id : ℕ) → nat_eq id x ≡ true → nat_eq id y ≡ nat_eq x y
one-id x y id same = ap (λ n. nat_eq n y) (same-eq id x same)

-- the streams that are found once one is closed, and once one is changed
pub found-removed : (streams : List (ℕ × Stream)) (id other : ℕ) → IsDistinct nat_eq (keys_of streams)
    → lookup (nat_eq other) (remove_entry (nat_eq id) streams) ≡ cond (nat_eq id other) None (lookup (nat_eq other) streams)
found-removed streams id other distinct = lookup-remove_entry nat_eq_equiv (nat_eq id) (λ x y same. one-id x y id same) other streams distinct

pub found-set : (streams : List (ℕ × Stream)) (id other : ℕ) (stream : Stream) → IsSome (lookup (nat_eq id) streams)
    → lookup (nat_eq other) (set_value (nat_eq id) streams stream) ≡ cond (nat_eq id other) (Some stream) (lookup (nat_eq other) streams)
found-set streams id other stream there = lookup-set_value nat_eq_equiv (nat_eq id) (λ x y same. one-id x y id same) other stream streams there

pub distinct-live : (streams : Book) (answers : List (ℕ × Waiting)) (r : Record) → StreamsStand streams answers r → IsDistinct nat_eq (keys_of streams.live)
distinct-live streams answers r s = subst (λ (keys : List ℕ). IsDistinct nat_eq keys) (sym s.live) (distinct-filter (is_live r) (begun_of r) (distinct-begun r))

-- What is known of a frame on a stream that was live, of the others' part and of the reset that it makes due.
pub record OnLive (r : Record) (frame : Frame) (id : ℕ) (x : Option Reset) : Type 0 where
  pub live : is_live r id ≡ true
  pub made : reset_by (resets_of r) r frame ≡ x
  pub of : IsOf x id
  pub on : (other : ℕ) → (other == id) ≡ false → is_on other frame ≡ false
  pub steady : initial_of (In frame ∷ r) ≡ initial_of r
  pub begun : begun_of (In frame ∷ r) ≡ begun_of r
  pub last : last_of (In frame ∷ r) ≡ last_of r

pub found-none : (live : Bool) (entry : Stream) → live ≡ false → (if live then Some entry else None) ≡ None
found-none true entry e = absurd (true≢false e)
found-none false entry e = refl

pub found-some : (live : Bool) (entry : Stream) → live ≡ true → (if live then Some entry else None) ≡ Some entry
found-some true entry e = refl
found-some false entry e = absurd (true≢false (sym e))

module _ (streams streams' : Book) (answers answers' : List (ℕ × Waiting)) (r : Record) (frame : Frame) (id : ℕ) (x : Option Reset) (s : StreamsStand streams answers r) (o : OnLive r frame id x) where
  other-live : (other : ℕ) → (id == other) ≡ false → is_live (In frame ∷ r) other ≡ is_live r other
  other-live other differ = let off = apart-flip id other differ in live-other r frame x o.made other (o.on other off) (away-of x id other o.of off)

  -- closed
  pub touch-close : is_live (In frame ∷ r) id ≡ false → streams'.live ≡ remove_entry (nat_eq id) streams.live → streams'.last ≡ streams.last
      → streams'.resets ≡ remembered_in (with_reset (resets_of r) x) → WaitsClosed (In frame ∷ r) id (waiting_on answers' id)
      → ((other : ℕ) → (id == other) ≡ false → waiting_on answers' other ≡ waiting_on answers other)
      → TouchesOne streams streams' answers answers' r frame id x
  touch-close shut removed last remembered waits rest = record {
    made = o.made;
    of = o.of;
    on = o.on;
    steady = o.steady;
    last = last ∙ s.last ∙ sym o.last;
    rises = omega (arith, o.last);
    within = (let w = live-within r id o.live in omega (arith, o.last, w));
    remembered = remembered;
    here = ap (lookup (nat_eq id)) removed ∙ found-removed streams.live id id (distinct-live streams answers r s)
        ∙ ap (λ b. cond b None (lookup (nat_eq id) streams.live)) (same-self id) ∙ sym (found-none (is_live (In frame ∷ r) id) (entry_of (In frame ∷ r) id) shut);
    others = λ other differ. ap (lookup (nat_eq other)) removed ∙ found-removed streams.live id other (distinct-live streams answers r s)
        ∙ ap (λ b. cond b None (lookup (nat_eq other) streams.live)) differ;
    keys = ap keys_of removed ∙ keys-closed (is_live r) (is_live (In frame ∷ r)) id (begun_of r) streams.live (distinct-begun r) s.live gone ∙ ap (filter (is_live (In frame ∷ r))) (sym o.begun);
    waits = subst (λ (live : Bool). WaitsBy live (In frame ∷ r) id (waiting_on answers' id)) (sym shut) waits;
    rest = rest;
  }
    where
      gone : (other : ℕ) → is_live (In frame ∷ r) other ≡ (is_live r other && not (nat_eq id other))
      gone other = by-test (id == other)
          (λ same. subst (λ (o : ℕ). is_live (In frame ∷ r) o ≡ false) (same-eq id other same) shut ∙ sym (and-false (is_live r other)) ∙ (λ i. is_live r other && not (sym same i)))
          (λ differ. other-live other differ ∙ sym (and-true (is_live r other)) ∙ (λ i. is_live r other && not (sym differ i)))

  -- changed
  pub touch-keep : (stream : Stream) → is_live (In frame ∷ r) id ≡ true → streams'.live ≡ set_value (nat_eq id) streams.live stream → streams'.last ≡ streams.last
      → streams'.resets ≡ remembered_in (with_reset (resets_of r) x) → stream ≡ entry_of (In frame ∷ r) id → WaitsLive (In frame ∷ r) id (waiting_on answers' id)
      → ((other : ℕ) → (id == other) ≡ false → waiting_on answers' other ≡ waiting_on answers other)
      → TouchesOne streams streams' answers answers' r frame id x
  touch-keep stream kept set last remembered entry waits rest = record {
    made = o.made;
    of = o.of;
    on = o.on;
    steady = o.steady;
    last = last ∙ s.last ∙ sym o.last;
    rises = omega (arith, o.last);
    within = (let w = live-within r id o.live in omega (arith, o.last, w));
    remembered = remembered;
    here = ap (lookup (nat_eq id)) set ∙ found-set streams.live id id stream there ∙ ap (λ b. cond b (Some stream) (lookup (nat_eq id) streams.live)) (same-self id)
        ∙ ap Some entry ∙ sym (found-some (is_live (In frame ∷ r) id) (entry_of (In frame ∷ r) id) kept);
    others = λ other differ. ap (lookup (nat_eq other)) set ∙ found-set streams.live id other stream there ∙ ap (λ b. cond b (Some stream) (lookup (nat_eq other) streams.live)) differ;
    keys = ap keys_of set ∙ keys-set_value (nat_eq id) streams.live stream ∙ s.live ∙ filter-same (is_live r) (is_live (In frame ∷ r)) (begun_of r) stays ∙ ap (filter (is_live (In frame ∷ r))) (sym o.begun);
    waits = subst (λ (live : Bool). WaitsBy live (In frame ∷ r) id (waiting_on answers' id)) (sym kept) waits;
    rest = rest;
  }
    where
      there : IsSome (find streams id)
      there = subst IsSome (sym (s.found id ∙ found-some (is_live r id) (entry_of r id) o.live)) refl

      stays : (other : ℕ) → is_live r other ≡ is_live (In frame ∷ r) other
      stays other = by-test (id == other)
          (λ same. subst (λ (o : ℕ). is_live r o ≡ is_live (In frame ∷ r) o) (same-eq id other same) (o.live ∙ sym kept))
          (λ differ. sym (other-live other differ))
