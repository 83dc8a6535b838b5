-- What a pass shows before and after a turn.
use Rattle.std.proofs.Common.{◌≡◌, ◌⊎◌, ℕ, ℤ, ◌+◌, max, ◌||◌, Bool, true, false, true≢false, List, [], ◌∷◌, ◌++◌, length, Option, Some, None, Result, Ok, Err, IfOk, refl, sym, ap, ◌∙◌, subst, inl, inr, arith, length-append}
use Rattle.outside.specs.declared.wants.Memory.{Memory}
use Rattle.turn_table.specs.Turn.{Steps}
use Rattle.turn_table.specs.View.{View, Reaches, ActsBy, LooksBy, Joins, seeing}
use Rattle.turn_table.specs.Rule.{Front}
use Rattle.turn_table.proofs.ListLemmas.{none_more}

-- a pass reaches what goes on from what it has seen
pub reaches : {E F : Type 0} (caller_of : E → ℕ) (view : View E F) (base : List E) → Front caller_of view.number view.seen base → (view.alone ≡ true → base ≡ view.seen) → Reaches caller_of view base
reaches caller_of view base front alone =
    record { more = front.more; is = front.is; others = front.others; none_if_alone = λ a. none_more view.seen front.more (sym (alone a) ∙ front.is) }

-- where the machine steps from what the pass reaches, the pass acts
pub acts : {E F C R : Type 0} (caller_of : E → ℕ) (allows : F → List E → ℕ → C → ℤ → R → Option E → Type 0) (old after : View E F) (base new : List E) (command : C) (now : ℤ) (result : Result R Memory)
    → Reaches caller_of old base → Steps caller_of (allows old.fixed) base new old.number command now result → after ≡ seeing old new → ActsBy caller_of allows old command now result after
acts caller_of allows old after base new command now (Ok reply) reached (added, allowed, carries, is) then =
    (base, added, reached, allowed, carries, then ∙ ap (λ history. seeing old history) is)
acts caller_of allows old after base new command now (Err memory) reached is then = (base, reached, then ∙ ap (λ history. seeing old history) is)

-- where the machine looks at what the pass reaches, the pass looks
pub looked : {E F K L : Type 0} (caller_of : E → ℕ) (looks : F → List E → K → L → Type 0) (old after : View E F) (base : List E) (key : K) (result : Result L Memory)
    → Reaches caller_of old base → IfOk result (looks old.fixed base key) → after ≡ seeing old base → LooksBy caller_of looks old key result after
looked caller_of looks old after base key (Ok look) reached allowed then = (base, reached, allowed, then)
looked caller_of looks old after base key (Err memory) reached allowed then = (base, reached, then)

-- a step adds an entry of the caller's or none, as its length says
pub grows : {E C R : Type 0} (caller_of : E → ℕ) (allows : List E → ℕ → C → ℤ → R → Option E → Type 0) (base new : List E) (caller : ℕ) (command : C) (now : ℤ) (result : Result R Memory) (added first : ℕ)
    → Steps caller_of allows base new caller command now result → length new ≡ length base + added → first ≡ caller
    → ((added ≡ 0) × (new ≡ base)) ⊎ ((added ≡ 1) × (entry : E) × (new ≡ base ++ entry ∷ []) × (caller_of entry ≡ first))
grows caller_of allows base new caller command now (Ok reply) added first (None, allowed, carries, is) long own = let a = ap length is in inl (omega arith, is)
grows caller_of allows base new caller command now (Ok reply) added first (Some entry, allowed, carries, is) long own =
    let a : length new ≡ length base + 1 = ap length is ∙ length-append base (entry ∷ []) in inr (omega arith, entry, is, carries ∙ sym own)
grows caller_of allows base new caller command now (Err memory) added first is long own = let a = ap length is in inl (omega arith, is)

-- and no fewer entries
pub no_fewer : {E C R : Type 0} (caller_of : E → ℕ) (allows : List E → ℕ → C → ℤ → R → Option E → Type 0) (base new : List E) (caller : ℕ) (command : C) (now : ℤ) (result : Result R Memory)
    → Steps caller_of allows base new caller command now result → (added : ℕ) × (length new ≡ length base + added)
no_fewer caller_of allows base new caller command now (Ok reply) (None, allowed, carries, is) = (0, let a = ap length is in omega arith)
no_fewer caller_of allows base new caller command now (Ok reply) (Some entry, allowed, carries, is) = (1, ap length is ∙ length-append base (entry ∷ []))
no_fewer caller_of allows base new caller command now (Err memory) is = (0, let a = ap length is in omega arith)

pub neither : (a b : Bool) → (a || b) ≡ false → (a ≡ false) × (b ≡ false)
neither true b e = absurd (true≢false e)
neither false b e = (refl, e)

-- a pass that has then seen what goes on from both histories
pub joined : {E F : Type 0} (caller_of : E → ℕ) (keep give after : View E F) (seen : List E) (bound : ℕ) (alone : Bool)
    → Front caller_of keep.number keep.seen seen → Front caller_of give.number give.seen seen → (seen ≡ keep.seen) ⊎ (seen ≡ give.seen) → keep.alone ≡ false → give.alone ≡ false
    → bound ≡ max keep.bound give.bound → alone ≡ false → after ≡ record keep { bound = bound; alone = alone; seen = seen } → Joins caller_of keep give after
joined {E} {F} caller_of keep give after seen bound alone first second longer keep_shared give_shared greater shared then =
    let same : seen ≡ after.seen = sym (ap (λ (v : View E F). v.seen) then) in record {
      is = then ∙ (λ i. record keep { bound = greater i; alone = shared i; seen = same i });
      longer = subst (λ (l : List E). (l ≡ keep.seen) ⊎ (l ≡ give.seen)) same longer;
      keeps = subst (Reaches caller_of keep) same (reaches caller_of keep seen first (λ a. absurd (true≢false (sym a ∙ keep_shared))));
      gives = subst (Reaches caller_of give) same (reaches caller_of give seen second (λ a. absurd (true≢false (sym a ∙ give_shared))));
    }
