-- What waits on the streams, when one of them changes, and when all are looked through.
use Rattle.std.proofs.Common.{◌≡◌, ℕ, ◌<◌, Bool, true, false, cond, List, [], ◌∷◌, length, Option, None, Some, IsSome, refl, sym, ap, subst, ⊎_elim, ◌∙◌, arith}
use Rattle.std.specs.Prelude.{nat_eq, unwrap_or, if◌then◌else◌}
use Rattle.std.specs.Map.{lookup, set_value}
use Rattle.std.specs.Prelude.{Result, Ok, Err, OnOk, OnErr}
use Rattle.std.proofs.lemmas.Map.{lookup-set_value}
use Rattle.std.proofs.lemmas.Map.Steps.{set_value_same}
use Rattle.std.proofs.lemmas.Cmp.{nat_eq_equiv}
use Rattle.std.proofs.lemmas.Bool.{eqb-true, cases_lt}
use Rattle.std.proofs.lemmas.Map.Entries.{place_from_lookup}
use Rattle.std.proofs.lemmas.Option.{slice_get_within}
use Rattle.h2_frames.specs.Sound.{IsStreamId}
use Rattle.h2_answers.specs.declared.part.Part.TheVariants as part
use Rattle.h2_answers.specs.Bounds.{Bounds}
use Rattle.h2_answers.specs.Waiting.{Waiting, nothing, waiting_on, ChangesOnly, Sets}
use Rattle.h2_answers.specs.declared.part.Due.{Due}
use Rattle.h2_answers.specs.Due.{NoneFits, IsNextDue}
use Rattle.h2_answers.specs.Kept.{AreQueues}
use Rattle.h2_answers.specs.Search.{NoneAt, NoneWithin, IsNextWithin}

-- ---- one stream changes

choice : (b : Bool) (kept other : Option Waiting) → unwrap_or (if b then kept else other) nothing ≡ (if b then unwrap_or kept nothing else unwrap_or other nothing)
choice true kept other = refl
choice false kept other = refl

pub ChangesOnly-Sets : (old new : List (ℕ × Waiting)) (id : ℕ) (kept : Option Waiting) → Sets old new id kept → ChangesOnly old new id (unwrap_or kept nothing)
ChangesOnly-Sets old new id kept sets other =
    ap (λ o. unwrap_or o nothing) (sets other) ∙ choice (nat_eq id other) kept (lookup (nat_eq other) old)

pub Sets-set_value : (es : List (ℕ × Waiting)) (id : ℕ) (w : Waiting) → IsSome (lookup (nat_eq id) es) → Sets es (set_value (nat_eq id) es w) id (Some w)
Sets-set_value es id w there other = lookup-set_value nat_eq_equiv (nat_eq id) (nat_eq_equiv.congr id) other w es there

pub Sets-Sets : (old middle new : List (ℕ × Waiting)) (id : ℕ) (kept last : Option Waiting) → Sets old middle id kept → Sets middle new id last → Sets old new id last
Sets-Sets old middle new id kept last first second other = by (nat_eq id other) refl
  where
    by : (b : Bool) → nat_eq id other ≡ b → lookup (nat_eq other) new ≡ (if nat_eq id other then last else lookup (nat_eq other) old)
    by true q =
        let e : lookup (nat_eq other) new ≡ last = rw q at (second other) in
        rw q e
    by false q =
        let e : lookup (nat_eq other) new ≡ lookup (nat_eq other) middle = rw q at (second other) in
        let f : lookup (nat_eq other) middle ≡ lookup (nat_eq other) old = rw q at (first other) in
        rw q (e ∙ f)

pub AreQueues-Sets : (old new : List (ℕ × Waiting)) (id : ℕ) (kept : Option Waiting) → Sets old new id kept → AreQueues old → (IsSome kept → IsStreamId id) → (kept ≡ Some nothing → ⊥) → AreQueues new
AreQueues-Sets old new id kept sets h stream some = record { ids = ids; some = others }
  where
    ids_by : (q : ℕ) (b : Bool) → nat_eq id q ≡ b → IsSome (lookup (nat_eq q) new) → IsStreamId q
    ids_by q true e there =
        let same = eqb-true id q e in
        let is : lookup (nat_eq q) new ≡ kept = rw e at (sets q) in
        subst IsStreamId same (stream (subst IsSome is there))
    ids_by q false e there =
        let is : lookup (nat_eq q) new ≡ lookup (nat_eq q) old = rw e at (sets q) in
        h.ids q (subst IsSome is there)

    ids : (q : ℕ) → IsSome (lookup (nat_eq q) new) → IsStreamId q
    ids q = ids_by q (nat_eq id q) refl

    others_by : (q : ℕ) (b : Bool) → nat_eq id q ≡ b → lookup (nat_eq q) new ≡ Some nothing → ⊥
    others_by q true e is_nothing =
        let is : lookup (nat_eq q) new ≡ kept = rw e at (sets q) in
        some (sym is ∙ is_nothing)
    others_by q false e is_nothing =
        let is : lookup (nat_eq q) new ≡ lookup (nat_eq q) old = rw e at (sets q) in
        h.some q (sym is ∙ is_nothing)

    others : (q : ℕ) → lookup (nat_eq q) new ≡ Some nothing → ⊥
    others q = others_by q (nat_eq id q) refl

-- ---- what is kept has something that waits

pub waiting-on : (es : List (ℕ × Waiting)) (id : ℕ) (w : Waiting) → lookup (nat_eq id) es ≡ Some w → waiting_on es id ≡ w
waiting-on es id w e = ap (λ o. unwrap_or o nothing) e

no-first : (e : ℕ × Waiting) (es : List (ℕ × Waiting)) → lookup (nat_eq e.0) (e ∷ es) ≡ Some e.1
no-first e es = ap (λ b. cond b (Some e.1) (lookup (nat_eq e.0) es)) (nat_eq_equiv.refl e.0)

pub no-queues : (es : List (ℕ × Waiting)) → AreQueues es → ((id : ℕ) → waiting_on es id ≡ nothing) → length es ≡ 0
no-queues [] h none = refl
no-queues (e ∷ es) h none =
    let first = no-first e es in
    let w : waiting_on (e ∷ es) e.0 ≡ e.1 = waiting-on (e ∷ es) e.0 e.1 first in
    absurd (h.some e.0 (first ∙ ap (λ v. Some v) (sym w ∙ none e.0)))

-- ---- all streams are looked through

pub none-of-nothing : (bounds : Bounds) (id : ℕ) → NoneFits bounds id nothing
none-of-nothing bounds id (part.Head end) due fits = let e = due.0.1 in cc
none-of-nothing bounds id (part.Body len) due fits = omega (arith, due.0.1, due.0.3)
none-of-nothing bounds id part.Tail due fits = let e = due.0.2 in cc
none-of-nothing bounds id (part.Reset code) due fits = let e = due.0.3 in cc

none-of-found : (bounds : Bounds) (es : List (ℕ × Waiting)) → ((place : ℕ) → place < length es → NoneAt bounds es place) → (id : ℕ) (found : Option Waiting) → lookup (nat_eq id) es ≡ found
    → NoneFits bounds id (unwrap_or found nothing)
none-of-found bounds es none id None e = none-of-nothing bounds id
none-of-found bounds es none id (Some w) e =
    let place = place_from_lookup (nat_eq id) es w e in
    let here : NoneFits bounds place.1 w = none place.0 (slice_get_within es place.0 (place.1, w) place.2) (place.1, w) place.2 in
    let P : ℕ → Type 0 = λ i. NoneFits bounds i w in
    subst P (sym (eqb-true id place.1 place.3)) here

-- the places from a turn on and those before it are all
pub IsNextDue-turns : (bounds : Bounds) (es : List (ℕ × Waiting)) (turn len : ℕ) → len ≡ length es → NoneWithin bounds es turn len → (result : Option Due) → IsNextWithin bounds es 0 turn result
    → IsNextDue bounds es result
IsNextDue-turns bounds es turn len all later (Some due) best = best
IsNextDue-turns bounds es turn len all later None earlier = λ id. none-of-found bounds es none id (lookup (nat_eq id) es) refl
  where
    none : (place : ℕ) → place < length es → NoneAt bounds es place
    none place within = ⊎_elim (λ before. earlier place (omega arith) before) (λ behind. later place behind (omega arith)) (cases_lt place turn)

-- ---- what holds of an answer that is Ok

pub OnOk-weaker : {T E : Type 0} (r : Result T E) {P Q : Type 0} → OnOk r P → (P → Q) → OnOk r Q
OnOk-weaker (Ok x) p f = f p
OnOk-weaker (Err e) p f = tt

pub OnErr-weaker : {T E : Type 0} (r : Result T E) {P Q : Type 0} → OnErr r P → (P → Q) → OnErr r Q
OnErr-weaker (Ok x) p f = tt
OnErr-weaker (Err e) p f = f p

-- a part is given on a stream that is kept
pub ChangesOnly-written : (es : List (ℕ × Waiting)) (id : ℕ) (old new : Waiting) (f : Waiting → Waiting) → Some old ≡ lookup (nat_eq id) es → new ≡ f old
    → ChangesOnly es (set_value (nat_eq id) es new) id (f (waiting_on es id))
ChangesOnly-written es id old new f is e =
    let there : IsSome (lookup (nat_eq id) es) = subst IsSome is refl in
    let changes = ChangesOnly-Sets es (set_value (nat_eq id) es new) id (Some new) (Sets-set_value es id new there) in
    let same : new ≡ f (waiting_on es id) = e ∙ ap f (sym (waiting-on es id old (sym is))) in
    let P : Waiting → Type 0 = λ w. ChangesOnly es (set_value (nat_eq id) es new) id w in
    subst P same changes

-- or it can't be
pub written-same : (es : List (ℕ × Waiting)) (id : ℕ) (old new : Waiting) → Some old ≡ lookup (nat_eq id) es → new ≡ old → set_value (nat_eq id) es new ≡ es
written-same es id old new is e = ap (set_value (nat_eq id) es) e ∙ set_value_same (nat_eq id) es old (sym is)
