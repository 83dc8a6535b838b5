-- Texts of streams that no table has, one after another.
use Rattle.std.proofs.Common.{◌≡◌, ◌⊎◌, inl, inr, ℕ, zero, suc, ◌+◌, ◌<◌, Bool, true, false, ◌||◌, List, [], ◌∷◌, ◌++◌, map, length, get_or, take, drop, cond, refl, sym, ap, ◌∙◌, arith}
use Rattle.std.specs.Prelude.{not, ◌&&◌}
use Rattle.std.specs.List.{list_any, filter, zip}
use Rattle.std.specs.Str.{bytes_eq}
use Rattle.std.specs.Ordering.{nat_cmp}
use Rattle.std.specs.Cmp.Lexicographic.{slice_cmp}
use Rattle.std.specs.BTreeSet.{BTreeSet, Updates, contains_by}
use Rattle.std.proofs.lemmas.Map.Text.{is_eq-slice_cmp}
use denote.Ref.{Bor}
use Rattle.std.proofs.lemmas.Cmp.{nat_list_eq_equiv}
use Rattle.row_descriptor.specs.Distinct.{are_distinct}
use Rattle.row_descriptor.proofs.DistinctLemmas.{are_distinct-push, are_distinct-repeat}
use Rattle.resource_names.specs.declared.write_streams.StreamId.{StreamId}
use Rattle.resource_names.specs.declared.write_streams.StreamId.TheVariants as id
use Rattle.resource_names.specs.declared.write_streams.WriteName.{WriteName}
use Rattle.table_model.specs.declared.streams.StreamRef.{StreamRef}
use Rattle.table_model.specs.declared.streams.StreamRef.TheVariants as stream
use Rattle.call_plans.specs.Names.{ref_of}
use Rattle.call_plans.specs.Twice.{is_unknown, repeats, unknown_texts}
use Rattle.call_read.specs.Streams.{is_other, refs_of, unknown_among}

-- ---- repeated, and not distinct

-- none is repeated exactly where all are distinct
pub repeats-is : (texts : List (List ℕ)) → repeats texts ≡ not (are_distinct bytes_eq texts)
unfolding repeats
repeats-is [] = refl
repeats-is (text ∷ texts) = de_morgan (list_any (bytes_eq text) texts) (repeats texts) (are_distinct bytes_eq texts) (repeats-is texts)
  where
    de_morgan : (a b c : Bool) → b ≡ not c → (a || b) ≡ not (not a && c)
    de_morgan true b c e = refl
    de_morgan false b c e = e

-- ---- the texts among which they are

is_other-is : (on : StreamId) → is_other (ref_of on) ≡ is_unknown on
is_other-is id.Default = refl
is_other-is (id.Number number) = refl
is_other-is id.Other = refl

first_or_not : {X Y : Type 0} (x : X) (y : Y) (text : List ℕ) (xs : List (List ℕ × X)) (ys : List (List ℕ × Y)) (here there : Bool) → here ≡ there
    → map (λ pair. pair.0) xs ≡ map (λ pair. pair.0) ys
    → map (λ pair. pair.0) (cond here ((text, x) ∷ xs) xs) ≡ map (λ pair. pair.0) (cond there ((text, y) ∷ ys) ys)
first_or_not x y text xs ys true true e same = ap (λ others. text ∷ others) same
first_or_not x y text xs ys true false e same = absurd cc
first_or_not x y text xs ys false true e same = absurd cc
first_or_not x y text xs ys false false e same = same

-- the texts of streams, by the names of the streams
pub unknown_among-is : (texts : List (List ℕ)) (names : List WriteName) → unknown_among texts (refs_of names) ≡ unknown_texts texts names
unknown_among-is [] names = refl
unknown_among-is (text ∷ texts) [] = refl
unknown_among-is (text ∷ texts) (name ∷ names) =
    first_or_not (ref_of name.stream) name text (filter (λ pair. is_other pair.1) (zip texts (refs_of names))) (filter (λ pair. is_unknown pair.1.stream) (zip texts names))
    (is_other (ref_of name.stream)) (is_unknown name.stream) (is_other-is name.stream) (unknown_among-is texts names)

-- the texts from a place on
split_at : (texts : List (List ℕ)) (refs : List StreamRef) (i : ℕ)
    → unknown_among texts refs ≡ unknown_among (take i texts) (take i refs) ++ unknown_among (drop i texts) (drop i refs)
split_at texts refs zero = refl
split_at [] refs (suc i) = refl
split_at (text ∷ texts) [] (suc i) = sym (no_refs (drop i texts))
  where
    no_refs : (texts : List (List ℕ)) → unknown_among texts [] ≡ []
    no_refs [] = refl
    no_refs (text ∷ texts) = refl
split_at (text ∷ texts) (stream.Default ∷ refs) (suc i) = split_at texts refs i
split_at (text ∷ texts) (stream.Number number ∷ refs) (suc i) = split_at texts refs i
split_at (text ∷ texts) (stream.Other ∷ refs) (suc i) = ap (λ others. text ∷ others) (split_at texts refs i)

front_more : (texts : List (List ℕ)) (refs : List StreamRef) (i : ℕ) (t : List ℕ) (r : StreamRef) → i < length texts → i < length refs
    → unknown_among (take (suc i) texts) (take (suc i) refs) ≡ unknown_among (take i texts) (take i refs) ++ unknown_among (get_or texts i t ∷ []) (get_or refs i r ∷ [])
front_more [] refs i t r a b = absurd (omega (arith, a))
front_more (text ∷ texts) [] i t r a b = absurd (omega (arith, b))
front_more (text ∷ texts) (ref ∷ refs) zero t r a b = refl
front_more (text ∷ texts) (stream.Default ∷ refs) (suc i) t r a b = front_more texts refs i t r (omega (arith, a)) (omega (arith, b))
front_more (text ∷ texts) (stream.Number number ∷ refs) (suc i) t r a b = front_more texts refs i t r (omega (arith, a)) (omega (arith, b))
front_more (text ∷ texts) (stream.Other ∷ refs) (suc i) t r a b = ap (λ others. text ∷ others) (front_more texts refs i t r (omega (arith, a)) (omega (arith, b)))

-- one more, that no table has
pub unknown_more : (texts : List (List ℕ)) (refs : List StreamRef) (i : ℕ) (t : List ℕ) (r : StreamRef) → i < length texts → i < length refs
    → t ≡ get_or texts i t → get_or refs i r ≡ stream.Other
    → unknown_among (take (i + 1) texts) (take (i + 1) refs) ≡ unknown_among (take i texts) (take i refs) ++ t ∷ []
unknown_more texts refs i t r a b here other =
    let on : i + 1 ≡ suc i = omega arith in
    ap (λ n. unknown_among (take n texts) (take n refs)) on ∙ front_more texts refs i t r a b
    ∙ ap (λ x. unknown_among (take i texts) (take i refs) ++ unknown_among (x ∷ []) (get_or refs i r ∷ [])) (sym here)
    ∙ ap (λ ref. unknown_among (take i texts) (take i refs) ++ unknown_among (t ∷ []) (ref ∷ [])) other

nil_behind : (texts : List (List ℕ)) → texts ++ [] ≡ texts
nil_behind [] = refl
nil_behind (text ∷ texts) = ap (λ others. text ∷ others) (nil_behind texts)

-- one more, that a table can have
pub unknown_same : (texts : List (List ℕ)) (refs : List StreamRef) (i : ℕ) (t : List ℕ) (r : StreamRef) → i < length texts → i < length refs
    → is_other (get_or refs i r) ≡ false
    → unknown_among (take (i + 1) texts) (take (i + 1) refs) ≡ unknown_among (take i texts) (take i refs)
unknown_same texts refs i t r a b known =
    let on : i + 1 ≡ suc i = omega arith in
    ap (λ n. unknown_among (take n texts) (take n refs)) on ∙ front_more texts refs i t r a b
    ∙ ap (λ one. unknown_among (take i texts) (take i refs) ++ one) (alone (get_or texts i t) (get_or refs i r) known)
    ∙ nil_behind (unknown_among (take i texts) (take i refs))
  where
    alone : (text : List ℕ) (ref : StreamRef) → is_other ref ≡ false → unknown_among (text ∷ []) (ref ∷ []) ≡ []
    alone text stream.Default e = refl
    alone text (stream.Number number) e = refl
    alone text stream.Other e = absurd cc

-- a stream that a table can have
pub known : (ref : StreamRef) → ((ref ≡ stream.Default) ⊎ ((number : ℕ) × (ref ≡ stream.Number number))) → is_other ref ≡ false
known ref (inl default) = ap is_other default
known ref (inr numbered) = ap is_other numbered.1

-- ---- a set of those before

-- The texts so far are distinct, and it is known which they are.
pub record Seen (texts : List (List ℕ)) (refs : List StreamRef) (i : ℕ) (has : List ℕ → Bool) : Type 0 where
  pub once : are_distinct bytes_eq (unknown_among (take i texts) (take i refs)) ≡ true
  pub are : (q : List ℕ) → has q ≡ list_any (bytes_eq q) (unknown_among (take i texts) (take i refs))

-- the set of those so far, with one more
pub set_more : (old new : BTreeSet (Bor (List ℕ))) (key : Bor (List ℕ)) → Updates (λ x y. slice_cmp nat_cmp x.now y.now) old new key true
    → (q : List ℕ) → contains_by (λ k. slice_cmp nat_cmp q k.now) new ≡ cond (bytes_eq key.now q) true (contains_by (λ k. slice_cmp nat_cmp q k.now) old)
set_more old new key updates q =
    updates.0 (record { ref_ptr = (0, 0); now = q }) ∙ ap (λ same. cond same true (contains_by (λ k. slice_cmp nat_cmp q k.now) old)) (is_eq-slice_cmp key.now q)

-- one more that is new
pub seen_more : (texts : List (List ℕ)) (refs : List StreamRef) (i : ℕ) (t : List ℕ) (r : StreamRef) (has has' : List ℕ → Bool) → i < length texts → i < length refs
    → t ≡ get_or texts i t → get_or refs i r ≡ stream.Other → has t ≡ false → ((q : List ℕ) → has' q ≡ cond (bytes_eq t q) true (has q))
    → Seen texts refs i has → Seen texts refs (i + 1) has'
seen_more texts refs i t r has has' a b here other new now seen =
    let more = unknown_more texts refs i t r a b here other in
    let front = unknown_among (take i texts) (take i refs) in
    record {
      once = ap (are_distinct bytes_eq) more ∙ are_distinct-push bytes_eq (λ x y. nat_list_eq_equiv.symm x y) front t seen.once (sym (seen.are t) ∙ new);
      are = λ q.
          now q ∙ ap (cond (bytes_eq t q) true) (seen.are q) ∙ ap (λ same. cond same true (list_any (bytes_eq q) front)) (nat_list_eq_equiv.symm t q)
          ∙ or_cond (bytes_eq q t) (list_any (bytes_eq q) front) ∙ sym (ap (list_any (bytes_eq q)) more ∙ any_last q front t);
    }
  where
    or_cond : (a b : Bool) → cond a true b ≡ (b || (a || false))
    or_cond true true = refl
    or_cond true false = refl
    or_cond false true = refl
    or_cond false false = refl

    or_assoc : (a b c : Bool) → (a || (b || c)) ≡ ((a || b) || c)
    or_assoc true b c = refl
    or_assoc false b c = refl

    any_last : (q : List ℕ) (xs : List (List ℕ)) (y : List ℕ) → list_any (bytes_eq q) (xs ++ y ∷ []) ≡ (list_any (bytes_eq q) xs || (bytes_eq q y || false))
    any_last q [] y = refl
    any_last q (x ∷ xs) y = ap (λ b. bytes_eq q x || b) (any_last q xs y) ∙ or_assoc (bytes_eq q x) (list_any (bytes_eq q) xs) (bytes_eq q y || false)

-- one more that a table can have
pub seen_same : (texts : List (List ℕ)) (refs : List StreamRef) (i : ℕ) (t : List ℕ) (r : StreamRef) (has : List ℕ → Bool) → i < length texts → i < length refs
    → is_other (get_or refs i r) ≡ false → Seen texts refs i has → Seen texts refs (i + 1) has
seen_same texts refs i t r has a b known seen =
    let same = unknown_same texts refs i t r a b known in
    record {
      once = ap (are_distinct bytes_eq) same ∙ seen.once;
      are = λ q. seen.are q ∙ sym (ap (list_any (bytes_eq q)) same);
    }

-- one more that was there
pub seen_again : (texts : List (List ℕ)) (refs : List StreamRef) (i : ℕ) (t : List ℕ) (r : StreamRef) (has : List ℕ → Bool) → i < length texts → i < length refs
    → t ≡ get_or texts i t → get_or refs i r ≡ stream.Other → has t ≡ true → Seen texts refs i has → true ≡ repeats (unknown_among texts refs)
seen_again texts refs i t r has a b here other there seen =
    let front = unknown_among (take i texts) (take i refs) in
    let rest = unknown_among (drop (suc i) texts) (drop (suc i) refs) in
    let on : i + 1 ≡ suc i = omega arith in
    let more = ap (λ n. unknown_among (take n texts) (take n refs)) (sym on) ∙ unknown_more texts refs i t r a b here other in
    let whole : unknown_among texts refs ≡ front ++ t ∷ rest = split_at texts refs (suc i) ∙ ap (λ xs. xs ++ rest) more ∙ joined front t rest in
    sym (repeats-is (unknown_among texts refs) ∙ ap (λ xs. not (are_distinct bytes_eq xs)) whole
    ∙ ap not (are_distinct-repeat bytes_eq (λ x y. nat_list_eq_equiv.symm x y) front t rest (sym (seen.are t) ∙ there)))
  where
    joined : (xs : List (List ℕ)) (y : List ℕ) (ys : List (List ℕ)) → (xs ++ y ∷ []) ++ ys ≡ xs ++ y ∷ ys
    joined [] y ys = refl
    joined (x ∷ xs) y ys = ap (λ others. x ∷ others) (joined xs y ys)

-- all were new
pub seen_all : (texts : List (List ℕ)) (refs : List StreamRef) (i : ℕ) (has : List ℕ → Bool) → take i texts ≡ texts → take i refs ≡ refs
    → Seen texts refs i has → false ≡ repeats (unknown_among texts refs)
seen_all texts refs i has all_texts all_refs seen =
    let distinct : are_distinct bytes_eq (unknown_among texts refs) ≡ true =
    sym (ap (λ ts. are_distinct bytes_eq (unknown_among ts (take i refs))) all_texts ∙ ap (λ rs. are_distinct bytes_eq (unknown_among texts rs)) all_refs) ∙ seen.once in
    sym (repeats-is (unknown_among texts refs) ∙ ap not distinct)
