-- What a closure that shifts each stream leaves of the live streams.
use Rattle.std.proofs.Common.{◌≡◌, ℕ, ℤ, Bool, true, false, cond, List, [], ◌∷◌, map, Option, None, Some, IsSome, refl, sym, ap, subst, is_some, true≢false, ◌∙◌, arith}
use Rattle.std.specs.Prelude.{find}
use Rattle.std.specs.Map.{lookup, values_of}
use Rattle.std.specs.Map.Calls.{RetainsPairs}
use Rattle.std.proofs.lemmas.Int.{ints}
use Rattle.h2_streams.specs.declared.stream.Stream.{Stream}
use Rattle.h2_streams.specs.Shifts.{shifted_by, is_above, IsShifted, AllStayAboveLeast}

module _ {F : Type 0} (T : F → ℕ → Stream → Bool → Stream → F → Type 0) (change : ℤ) (f : F)
    (says : (k : ℕ) (v : Stream) (b : Bool) (w : Stream) (g : F) → T f k v b w g → (b ≡ true) × IsShifted change v w × (g ≡ f)) where
  pub shifted-RetainsPairs : (es kept : List (ℕ × Stream)) → AllStayAboveLeast change es → find (is_above change) (values_of es) ≡ None
      → RetainsPairs T f es kept → kept ≡ map (shifted_by change) es
  shifted-RetainsPairs [] kept low none h = h
  shifted-RetainsPairs (e ∷ es) kept low none h =
      let s = says e.0 e.1 h.0 h.1 h.2 h.4 in
      by (is_above change e.1) refl (λ below. shifted-RetainsPairs es h.3 low.1 below (subst (λ g. RetainsPairs T g es h.3) s.2 h.5))
    where
      first : (b : Bool) → is_above change e.1 ≡ b → cond b (Some e.1) (find (is_above change) (values_of es)) ≡ None
      first b q = sym (ap (λ b. cond b (Some e.1) (find (is_above change) (values_of es))) q) ∙ none

      by : (b : Bool) → is_above change e.1 ≡ b → (find (is_above change) (values_of es) ≡ None → h.3 ≡ map (shifted_by change) es) → kept ≡ map (shifted_by change) (e ∷ es)
      by true q rest = absurd (true≢false (ap is_some (first true q)))
      by false q rest =
          let s = says e.0 e.1 h.0 h.1 h.2 h.4 in
          let w = s.1 low.0 (omega (arith, ints, q)) in
          h.6 ∙ (λ j. cond (s.0 j) ((e.0, w j) ∷ rest (first false q) j) (rest (first false q) j))

lookup-chosen : (b : Bool) (change : ℤ) (v : Stream) (r q : Option Stream) → (r ≡ None → q ≡ None) → cond b (Some v) r ≡ None → cond b (Some (shifted_by change (0, v)).1) q ≡ None
lookup-chosen true change v r q h p = absurd (true≢false (ap is_some p))
lookup-chosen false change v r q h p = h p

found-chosen : (b : Bool) (change : ℤ) (v : Stream) (r q : Option Stream) → (IsSome q → IsSome r) → IsSome (cond b (Some (shifted_by change (0, v)).1) q) → IsSome (cond b (Some v) r)
found-chosen true change v r q h some = some
found-chosen false change v r q h some = h some

-- no id is found in more streams than before
pub lookup-shifted : (test : ℕ → Bool) (change : ℤ) (es : List (ℕ × Stream)) → lookup test es ≡ None → lookup test (map (shifted_by change) es) ≡ None
lookup-shifted test change [] none = refl
lookup-shifted test change (e ∷ es) none = lookup-chosen (test e.0) change e.1 (lookup test es) (lookup test (map (shifted_by change) es)) (lookup-shifted test change es) none

-- and none in fewer
pub found-shifted : (test : ℕ → Bool) (change : ℤ) (es : List (ℕ × Stream)) → IsSome (lookup test (map (shifted_by change) es)) → IsSome (lookup test es)
found-shifted test change [] some = some
found-shifted test change (e ∷ es) some = found-chosen (test e.0) change e.1 (lookup test es) (lookup test (map (shifted_by change) es)) (found-shifted test change es) some
