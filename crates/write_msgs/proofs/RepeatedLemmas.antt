-- The messages of a repeated field, one after another.
use Rattle.std.proofs.Common.{◌≡◌, ℕ, ◌+◌, ◌<◌, List, [], ◌∷◌, ◌++◌, length, map, take, get_or, Ok, Err, Result, refl, sym, ap, subst, ◌∙◌, inl, inr, arith}
use Rattle.std.specs.Prelude.{◌⊎◌}
use Rattle.std.proofs.lemmas.List.{length-map, length-take-le, map_more}
use Rattle.std.specs.Global.{Vec}
use Rattle.write_msgs.specs.declared.faults.MsgFault.{MsgFault}
use Rattle.write_msgs.specs.declared.faults.MsgFault.TheVariants as fault
use Rattle.write_msgs.specs.Faults.{both, ReadsAs}
use Rattle.write_msgs.specs.Repeated.{located, joined, items_from, listed, with_last}
use Rattle.write_msgs.proofs.FaultLemmas.{least_memory, least_groups}

groups : {X : Type 0} (a : Result X MsgFault) (b : Result (List X) MsgFault) (c : Result X MsgFault) → joined (both a (with_last (both b c))) ≡ with_last (both (joined (both a b)) c)
groups (Ok x) (Ok xs) (Ok y) = refl
groups (Ok x) (Ok xs) (Err e) = refl
groups (Ok x) (Err d) (Ok y) = refl
groups (Ok x) (Err d) (Err e) = refl
groups (Err d) (Ok xs) (Ok y) = refl
groups (Err d) (Ok xs) (Err e) = refl
groups (Err d) (Err e) (Ok y) = refl
groups (Err d) (Err e) (Err f) = ap Err (sym (least_groups d e f))

alone : {X : Type 0} (a : Result X MsgFault) → joined (both a (Ok [])) ≡ with_last (both (Ok []) a)
alone (Ok x) = refl
alone (Err e) = refl

pub items_from-last : {X : Type 0} (read : List ℕ → Result X MsgFault) (n : ℕ) (front : List (List ℕ)) (bytes : List ℕ)
    → items_from read n (front ++ bytes ∷ []) ≡ with_last (both (items_from read n front) (located (n + length front) (read bytes)))
unfolding items_from
items_from-last {X} read n [] bytes =
    let here : n + 0 ≡ n = omega arith in
    rw here (alone (located n (read bytes)))
items_from-last {X} read n (first ∷ front) bytes =
    let there : n + 1 + length front ≡ n + length (first ∷ front) = omega arith in
    let here : Result X MsgFault = located n (read first) in
    let others : Result (List X) MsgFault = items_from read (n + 1) front in
    ap (λ behind. joined (both here behind)) (items_from-last read (n + 1) front bytes) ∙ groups here others (located (n + 1 + length front) (read bytes))
    ∙ ap (λ k. with_last (both (joined (both here others)) (located k (read bytes)))) there

-- What was read, unless memory was wanting, is what equals the definition.
pub same_reading : {X : Type 0} (r : Result X MsgFault) → ReadsAs r r
same_reading (Ok x) = refl
same_reading (Err fault.Memory) = tt
same_reading (Err (fault.BadProto at)) = refl
same_reading (Err (fault.Unsupported field)) = refl
same_reading (Err (fault.BadUtf8 field)) = refl

pub reading_cases : {X : Type 0} (r d : Result X MsgFault) → ReadsAs r d → (r ≡ Err fault.Memory) ⊎ (d ≡ r)
reading_cases (Ok x) d h = inr h
reading_cases (Err fault.Memory) d h = inl refl
reading_cases (Err (fault.BadProto at)) d h = inr h
reading_cases (Err (fault.Unsupported field)) d h = inr h
reading_cases (Err (fault.BadUtf8 field)) d h = inr h

-- one more pushed to a vector that was read
abbrev pub pushed : {X : Type 0} → Result (Vec X × X) MsgFault → Result (List X) MsgFault
pushed (Ok x) = Ok (x.0.items ++ x.1 ∷ [])
pushed (Err e) = Err e

pushed_same : {X : Type 0} (a : Result (Vec X) MsgFault) (b : Result X MsgFault) → pushed (both a b) ≡ with_last (both (listed a) b)
pushed_same (Ok xs) (Ok x) = refl
pushed_same (Ok xs) (Err e) = refl
pushed_same (Err d) (Ok x) = refl
pushed_same (Err d) (Err e) = refl

memory_before : {X : Type 0} (a : Result (Vec X) MsgFault) (b : Result X MsgFault) → listed a ≡ Err fault.Memory → pushed (both a b) ≡ Err fault.Memory
memory_before (Ok xs) b h = absurd cc
memory_before (Err d) (Ok x) h = h
memory_before (Err fault.Memory) (Err e) h = refl
memory_before (Err (fault.BadProto at)) (Err e) h = absurd cc
memory_before (Err (fault.Unsupported field)) (Err e) h = absurd cc
memory_before (Err (fault.BadUtf8 field)) (Err e) h = absurd cc

memory_now : {X : Type 0} (a : Result (Vec X) MsgFault) → pushed (both a (Err fault.Memory)) ≡ Err fault.Memory
memory_now (Ok xs) = refl
memory_now (Err d) = ap Err (least_memory d)

pub one_more : {X : Type 0} (so_far : Result (Vec X) MsgFault) (one : Result X MsgFault) (n : ℕ) (before : Result (List X) MsgFault) (item : Result X MsgFault)
    → ReadsAs (listed so_far) before → ReadsAs one item → ReadsAs (pushed (both so_far (located n one))) (with_last (both before (located n item)))
one_more so_far one n before item h k =
    let whole = with_last (both before (located n item)) in
    elim (reading_cases (listed so_far) before h) [
      | inl wanting ↦ subst (λ r. ReadsAs r whole) (sym (memory_before so_far (located n one) wanting)) tt
      | inr same ↦
          elim (reading_cases one item k) [
            | inl wanting ↦ rw (wanting, memory_now so_far) tt
            | inr equal ↦ rw (same, equal, pushed_same so_far (located n one)) (same_reading (with_last (both (listed so_far) (located n one))))
          ]
    ]

-- the front of a list grows by the item at its end
pub items_more : {X S : Type 0} (read : List ℕ → Result X MsgFault) (f : S → List ℕ) (spans : List S) (i : ℕ) (d : S) → i < length spans
    → items_from read 0 (map f (take (i + 1) spans)) ≡ with_last (both (items_from read 0 (map f (take i spans))) (located i (read (f (get_or spans i d)))))
items_more read f spans i d h =
    let few : length (map f (take i spans)) ≡ i = length-map (take i spans) f ∙ length-take-le i spans (omega (arith, h)) in
    let there : 0 + length (map f (take i spans)) ≡ i = omega (arith, few) in
    ap (items_from read 0) (map_more f spans i d h)
    ∙ items_from-last read 0 (map f (take i spans)) (f (get_or spans i d))
    ∙ ap (λ k. with_last (both (items_from read 0 (map f (take i spans))) (located k (read (f (get_or spans i d)))))) there

pub items_read : {X S : Type 0} (read : List ℕ → Result X MsgFault) (f : S → List ℕ) (spans : List S) (i : ℕ) (d : S) (bytes : List ℕ) (r : Result (List X) MsgFault) → i < length spans → bytes ≡ f (get_or spans i d)
    → ReadsAs r (with_last (both (items_from read 0 (map f (take i spans))) (located i (read bytes)))) → ReadsAs r (items_from read 0 (map f (take (i + 1) spans)))
items_read {X} read f spans i d bytes r h is reads =
    let front : Result (List X) MsgFault = items_from read 0 (map f (take i spans)) in
    let there : ReadsAs r (with_last (both front (located i (read (f (get_or spans i d)))))) = subst (λ bs. ReadsAs r (with_last (both front (located i (read bs))))) is reads in
    subst (ReadsAs r) (sym (items_more read f spans i d h)) there

pub item_refused : {X : Type 0} (so_far : Result (Vec X) MsgFault) (one placed : Result X MsgFault) (n : ℕ) (e : MsgFault) → Err e ≡ both so_far placed → placed ≡ located n one
    → (before : Result (List X) MsgFault) (item : Result X MsgFault) → ReadsAs (listed so_far) before → ReadsAs one item → ReadsAs {X = List X} (Err e) (with_last (both before (located n item)))
item_refused so_far one placed n e is there before item h k =
    let refused : both so_far (located n one) ≡ Err e = ap (both so_far) (sym there) ∙ sym is in
    subst (λ r. ReadsAs (pushed r) (with_last (both before (located n item)))) refused (one_more so_far one n before item h k)
