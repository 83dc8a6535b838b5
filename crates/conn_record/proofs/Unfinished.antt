-- What is held of a log is an unfinished preface or frame.
use Rattle.std.proofs.Common.{◌≡◌, ℕ, ◌+◌, ◌-◌, ◌<◌, ◌≤◌, Bool, true, false, List, [], ◌∷◌, ◌++◌, length, drop, fold, refl, sym, ap, subst, ◌∙◌, arith, inl, inr}
use Rattle.std.specs.Prelude.{nat_lt, nat_eq}
use Rattle.std.specs.List.{starts_with}
use Rattle.std.proofs.lemmas.Bool.{le-ltb, lt-ltb, cases_lt}
use Rattle.std.proofs.lemmas.Bool.Decides.{Decides-eqb}
use Rattle.std.proofs.lemmas.Slice.Eq.{starts_is}
use Rattle.std.proofs.lemmas.List.{append-nil, length-append, drop_all}
use Rattle.links.specs.Link.{Moved, Read, Wrote, Waited}
use Rattle.h2_frames.specs.declared.reader.Next.{Next}
use Rattle.h2_frames.specs.declared.reader.Next.TheVariants as next
use Rattle.h2_frames.specs.Header.{header_of, header_len}
use Rattle.h2_frames.specs.Held.{preface_len}
use Rattle.h2_frames.specs.Reading.{preface, preface_next, frame_next, held_with, frame_need}
use Rattle.h2_frames.specs.Run.{nothing_held}
use Rattle.h2_frames.proofs.HeldLemmas.{header_of-append, holding}
use Rattle.h2_frames.proofs.FramingLemmas.{more_exactly}
use Rattle.h2_frames.proofs.RunLemmas.{preface_next-none}
use Rattle.conn_record.specs.Timeline.{Framing, unframed, is_broken, came, fed, byte_in, byte_out, went, framed_from, framing_of}
use Rattle.conn_record.specs.Pieces.{IsUnfinished, HoldsUnfinished}

-- ---- a frame that isn't whole

pub frame-wants : (bytes : List ℕ) → frame_next bytes ≡ next.More → 0 < frame_need bytes
unfolding frame_need
frame-wants bytes more =
    let parts = (more_exactly bytes).0 more in
    elim (cases_lt (length bytes) header_len) [
      | inl short ↦ let t : nat_lt (length bytes) header_len ≡ true = lt-ltb _ _ short in rw t (omega arith)
      | inr long ↦
          let t : nat_lt (length bytes) header_len ≡ false = le-ltb _ _ long in
          elim (cases_lt (length bytes) (header_len + (header_of bytes).length)) [
            | inl less ↦ rw t (omega arith)
            | inr enough ↦ absurd (parts.1 (record { header = long; payload = enough }))
          ]
    ]

-- a byte more, where more than one is wanted
pub frame-more : (bytes : List ℕ) (byte : ℕ) → frame_next bytes ≡ next.More → 1 < frame_need bytes → frame_next (bytes ++ byte ∷ []) ≡ next.More
unfolding frame_need
frame-more bytes byte more wants =
    let parts = (more_exactly bytes).0 more in
    let n : length (bytes ++ byte ∷ []) ≡ length bytes + 1 = length-append bytes (byte ∷ []) in
    elim (cases_lt (length bytes) header_len) [
      | inl short ↦
          let t : nat_lt (length bytes) header_len ≡ true = lt-ltb _ _ short in
          let left : 1 < header_len - length bytes = rw t at wants in
          (more_exactly (bytes ++ byte ∷ [])).1 (λ large. omega (arith, large.header), λ whole. omega (arith, whole.header))
      | inr long ↦
          let t : nat_lt (length bytes) header_len ≡ false = le-ltb _ _ long in
          let left : 1 < header_len + (header_of bytes).length - length bytes = rw t at wants in
          let same : (header_of (bytes ++ byte ∷ [])).length ≡ (header_of bytes).length = ap (λ h. h.length) (header_of-append bytes (byte ∷ []) long) in
          (more_exactly (bytes ++ byte ∷ [])).1 (
            λ large. parts.0 (record { header = long; large = omega (arith, large.large) }),
            λ whole. omega (arith, whole.payload),
          )
    ]

-- it wants one less
pub frame-wants-less : (bytes : List ℕ) (byte count : ℕ) → 0 < count → count + 1 ≤ frame_need bytes → count ≤ frame_need (bytes ++ byte ∷ [])
unfolding frame_need
frame-wants-less bytes byte count some fits =
    let n : length (bytes ++ byte ∷ []) ≡ length bytes + 1 = length-append bytes (byte ∷ []) in
    elim (cases_lt (length bytes) header_len) [
      | inl short ↦
          let t : nat_lt (length bytes) header_len ≡ true = lt-ltb _ _ short in
          let left : count + 1 ≤ header_len - length bytes = rw t at fits in
          let u : nat_lt (length (bytes ++ byte ∷ [])) header_len ≡ true = lt-ltb _ _ (omega arith) in
          rw u (omega arith)
      | inr long ↦
          let t : nat_lt (length bytes) header_len ≡ false = le-ltb _ _ long in
          let left : count + 1 ≤ header_len + (header_of bytes).length - length bytes = rw t at fits in
          let same : (header_of (bytes ++ byte ∷ [])).length ≡ (header_of bytes).length = ap (λ h. h.length) (header_of-append bytes (byte ∷ []) long) in
          let u : nat_lt (length (bytes ++ byte ∷ [])) header_len ≡ false = le-ltb _ _ (omega arith) in
          rw u (omega arith)
    ]

-- a frame that a byte makes whole ends with it
frame-ends : (bytes : List ℕ) (byte : ℕ) → frame_next bytes ≡ next.More → length (bytes ++ byte ∷ []) ≤ header_len + (header_of (bytes ++ byte ∷ [])).length
frame-ends bytes byte more =
    let parts = (more_exactly bytes).0 more in
    let n : length (bytes ++ byte ∷ []) ≡ length bytes + 1 = length-append bytes (byte ∷ []) in
    elim (cases_lt (length bytes) header_len) [
      | inl short ↦ omega arith
      | inr long ↦
          let same : (header_of (bytes ++ byte ∷ [])).length ≡ (header_of bytes).length = ap (λ h. h.length) (header_of-append bytes (byte ∷ []) long) in
          elim (cases_lt (length bytes) (header_len + (header_of bytes).length)) [
            | inl less ↦ omega arith
            | inr enough ↦ absurd (parts.1 (record { header = long; payload = enough }))
          ]
    ]

-- ---- a preface that isn't whole

pub length-preface : length preface ≡ preface_len
unfolding preface
length-preface = refl

pub short-preface : (bytes : List ℕ) → length bytes < preface_len → starts_with nat_eq bytes preface ≡ false
short-preface bytes short = by (starts_with nat_eq bytes preface) refl
  where
    by : (whole : Bool) → starts_with nat_eq bytes preface ≡ whole → whole ≡ false
    by false e = refl
    by true e =
        let split = (starts_is Decides-eqb bytes preface _ refl).0 e in
        absurd (omega (arith, short, length-preface, ap length split, length-append preface (drop (length preface) bytes)))

-- bytes that are as long as the preface and none but its own are the preface
whole-preface : (bytes : List ℕ) → preface_len ≤ length bytes → starts_with nat_eq preface bytes ≡ true → starts_with nat_eq bytes preface ≡ true
whole-preface bytes long e =
    let split : preface ≡ bytes ++ drop (length bytes) preface = (starts_is Decides-eqb preface bytes _ refl).0 e in
    let none : drop (length bytes) preface ≡ [] = drop_all (length bytes) preface (omega (arith, length-preface)) in
    let same : bytes ≡ preface ++ [] = sym (append-nil bytes) ∙ ap (λ (rest : List ℕ). bytes ++ rest) (sym none) ∙ sym split ∙ sym (append-nil preface) in
    (starts_is Decides-eqb bytes preface _ refl).1 [] same

-- ---- a byte more

nothing-unfinished : IsUnfinished nothing_held
unfolding preface
nothing-unfinished = record { goes_on = refl; wants = omega arith }

empty-unfinished : IsUnfinished (holding true [])
unfolding frame_next frame_need
empty-unfinished = record { goes_on = refl; wants = omega arith }

preface-goes-on : (bytes : List ℕ) → preface_next bytes ≡ next.More → starts_with nat_eq preface bytes ≡ true
preface-goes-on bytes e = by (starts_with nat_eq preface bytes) refl
  where
    by : (front : Bool) → starts_with nat_eq preface bytes ≡ front → front ≡ true
    by true is = refl
    by false is = absurd (let f : preface_next bytes ≡ next.Fault (record { code = 1; rule = 1 }) = rw is refl in cc)

module _ (s : Framing) where
  started : (bytes : List ℕ) (byte : ℕ) → frame_next bytes ≡ next.More → (n : Next) → frame_next (bytes ++ byte ∷ []) ≡ n → IsUnfinished (came s (holding true (bytes ++ byte ∷ [])) n).inflow
  started bytes byte more (next.Frame frame) e =
      let none : drop (header_len + (header_of (bytes ++ byte ∷ [])).length) (bytes ++ byte ∷ []) ≡ [] = drop_all _ _ (frame-ends bytes byte more) in
      rw none empty-unfinished
  started bytes byte more next.More e = record { goes_on = e; wants = frame-wants (bytes ++ byte ∷ []) e }
  started bytes byte more (next.Fault fault) e = nothing-unfinished

  begun : (bytes : List ℕ) (n : Next) → bytes ≡ [] → frame_next bytes ≡ n → IsUnfinished (came s (holding true bytes) n).inflow
  unfolding frame_next
  begun bytes n none e =
      let more : next.More ≡ n = ap frame_next (sym none) ∙ e in
      rw (← more, none) empty-unfinished

  unstarted : (bytes : List ℕ) → length bytes ≤ preface_len → starts_with nat_eq bytes preface ≡ false → (n : Next) → preface_next bytes ≡ n → IsUnfinished (came s (holding false bytes) n).inflow
  unstarted bytes short part (next.Frame frame) e = absurd (preface_next-none bytes frame e)
  unstarted bytes short part next.More e = record {
    goes_on = e;
    wants = elim (cases_lt (length bytes) preface_len) [
      | inl less ↦ omega arith
      | inr long ↦ absurd (let whole = whole-preface bytes long (preface-goes-on bytes e) in cc)
    ];
  }
  unstarted bytes short part (next.Fault fault) e = nothing-unfinished

  preface-by : (bytes : List ℕ) (whole : Bool) → length bytes ≤ preface_len → starts_with nat_eq bytes preface ≡ whole → IsUnfinished (fed s (held_with (holding false []) bytes)).inflow
  preface-by bytes true short e = rw e (begun (drop preface_len bytes) _ (drop_all preface_len bytes short) refl)
  preface-by bytes false short e = rw e (unstarted bytes short e _ refl)

  grows : (begun : Bool) (bytes : List ℕ) (byte : ℕ) → IsUnfinished (holding begun bytes) → IsUnfinished (fed s (held_with (holding begun bytes) (byte ∷ []))).inflow
  grows true bytes byte u = started bytes byte u.goes_on _ refl
  grows false bytes byte u = preface-by (bytes ++ byte ∷ []) _ (omega (arith, u.wants, length-append bytes (byte ∷ []))) refl

unfinished-in : (s : Framing) (byte : ℕ) → IsUnfinished s.inflow → IsUnfinished (byte_in s byte).inflow
unfolding byte_in
unfinished-in s byte u = by (is_broken s.frames) refl
  where
    by : (broken : Bool) → is_broken s.frames ≡ broken → IsUnfinished (byte_in s byte).inflow
    by true e = rw e u
    by false e = rw e (grows s s.inflow.started s.inflow.bytes byte u)

inflow-out : (s : Framing) (bytes : List ℕ) (n : Next) → (went s bytes n).inflow ≡ s.inflow
inflow-out s bytes (next.Frame frame) = refl
inflow-out s bytes next.More = refl
inflow-out s bytes (next.Fault fault) = refl

unfinished-reads : (bytes : List ℕ) (s : Framing) → IsUnfinished s.inflow → IsUnfinished (fold byte_in s bytes).inflow
unfinished-reads [] s u = u
unfinished-reads (b ∷ bytes) s u = unfinished-reads bytes (byte_in s b) (unfinished-in s b u)

unfinished-writes : (bytes : List ℕ) (s : Framing) → IsUnfinished s.inflow → IsUnfinished (fold byte_out s bytes).inflow
unfolding byte_out
unfinished-writes [] s u = u
unfinished-writes (b ∷ bytes) s u =
    unfinished-writes bytes (byte_out s b) (subst IsUnfinished (sym (inflow-out s (s.outflow ++ b ∷ []) (frame_next (s.outflow ++ b ∷ [])))) u)

unfinished-from : (log : List Moved) (s : Framing) → IsUnfinished s.inflow → IsUnfinished (framed_from s log).inflow
unfinished-from [] s u = u
unfinished-from (Read bytes ∷ log) s u = unfinished-from log (fold byte_in s bytes) (unfinished-reads bytes s u)
unfinished-from (Wrote bytes ∷ log) s u = unfinished-from log (fold byte_out s bytes) (unfinished-writes bytes s u)
unfinished-from (Waited ∷ log) s u = unfinished-from log s u

pub holds-unfinished : HoldsUnfinished
unfolding framing_of
holds-unfinished log = unfinished-from log unframed nothing-unfinished
