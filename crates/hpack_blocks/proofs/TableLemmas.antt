-- Sizes and evictions.
use Rattle.std.proofs.Common.{◌≡◌, ℕ, zero, suc, ◌+◌, ◌-◌, ◌<◌, ◌≤◌, List, [], ◌∷◌, ◌++◌, Some, None, refl, sym, ap, ◌∙◌, arith, inl, inr, add_assoc, zero-add}
use Rattle.std.proofs.lemmas.Bool.{cases_lt, le-leb, lt-leb, lt-ltb, le-ltb}
use Rattle.std.specs.Prelude.{slice_get}
use Rattle.hpack_blocks.specs.Static.{static_table}
use Rattle.hpack_blocks.specs.declared.fields.Field.{Field}
use Rattle.hpack_blocks.specs.Table.{Table, added, entry_at, size_of, list_size, newest}

pub list_size-append : (xs ys : List Field) → list_size (xs ++ ys) ≡ list_size xs + list_size ys
unfolding list_size
list_size-append [] ys = sym (zero-add (list_size ys))
list_size-append (f ∷ xs) ys = ap (λ n. size_of f + n) (list_size-append xs ys) ∙ sym (add_assoc (size_of f) (list_size xs) (list_size ys))

pub list_size-one : (f : Field) → list_size (f ∷ []) ≡ size_of f
unfolding list_size
list_size-one f = omega arith

-- what fits stays
pub newest-all : (room : ℕ) (entries : List Field) → list_size entries ≤ room → newest room entries ≡ entries
unfolding newest list_size
newest-all room [] h = refl
newest-all room (f ∷ entries) h = rw (le-leb (size_of f) room (omega arith), newest-all (room - size_of f) entries (omega arith)) refl

-- what doesn't fit loses its oldest
pub newest-last : (room : ℕ) (entries : List Field) (f : Field) → room < list_size (entries ++ f ∷ []) → newest room (entries ++ f ∷ []) ≡ newest room entries
unfolding newest list_size
newest-last room [] f h = rw (lt-leb (size_of f) room (omega arith)) refl
newest-last room (x ∷ entries) f h =
    elim (cases_lt room (size_of x)) [
      | inl lt ↦ rw (lt-leb (size_of x) room lt) refl
      | inr le ↦ rw (le-leb (size_of x) room le, newest-last (room - size_of x) entries f (omega arith)) refl
    ]

pub newest-empty : (room : ℕ) (f : Field) (entries : List Field) → room < size_of f → newest room (f ∷ entries) ≡ []
unfolding newest
newest-empty room f entries h = rw (lt-leb (size_of f) room h) refl

pub newest-first : (room : ℕ) (f : Field) (entries : List Field) → size_of f ≤ room → newest room (f ∷ entries) ≡ f ∷ newest (room - size_of f) entries
unfolding newest
newest-first room f entries h = rw (le-leb (size_of f) room h) refl

-- the oldest entry goes
pub gone : (size : ℕ) (entries rest : List Field) (oldest : Field) → entries ≡ rest ++ oldest ∷ [] → size ≡ list_size entries → size ≡ list_size rest + size_of oldest
gone size entries rest oldest split is = is ∙ ap list_size split ∙ list_size-append rest (oldest ∷ []) ∙ ap (λ n. list_size rest + n) (list_size-one oldest)

pub gone_newest : (room size : ℕ) (entries rest : List Field) (oldest : Field) (all : List Field) → entries ≡ rest ++ oldest ∷ [] → size ≡ list_size entries → room < size → newest room entries ≡ all → newest room rest ≡ all
gone_newest room size entries rest oldest all split is more so_far =
    let larger : room < list_size (rest ++ oldest ∷ []) = omega (arith, is, ap list_size split) in
    sym (newest-last room rest oldest larger) ∙ ap (newest room) (sym split) ∙ so_far

pub nothing_left : (size : ℕ) (entries : List Field) → entries ≡ [] → size ≡ list_size entries → size ≡ 0
unfolding list_size
nothing_left size entries none is = is ∙ ap list_size none

pub no_size : list_size [] ≡ 0
unfolding list_size
no_size = refl

pub list_size-first : (f : Field) (entries : List Field) → list_size (f ∷ entries) ≡ size_of f + list_size entries
unfolding list_size
list_size-first f entries = refl

pub added-large : (max : ℕ) (f : Field) (entries : List Field) → max < size_of f → (let t : Table = record { max = max; entries = [] } in t ≡ added (record { max = max; entries = entries }) f)
added-large max f entries h = rw (newest-empty max f entries h) refl

pub added-fits : (max : ℕ) (f : Field) (entries rest : List Field) → size_of f ≤ max → rest ≡ newest (max - size_of f) entries → (let t : Table = record { max = max; entries = f ∷ rest } in t ≡ added (record { max = max; entries = entries }) f)
added-fits max f entries rest h is = rw (newest-first max f entries h, is) refl

pub list_size-push : (fields : List Field) (f : Field) → list_size (fields ++ f ∷ []) ≡ list_size fields + size_of f
list_size-push fields f = list_size-append fields (f ∷ []) ∙ ap (λ n. list_size fields + n) (list_size-one f)

pub entry_at-none : (entries : List Field) → entry_at entries 0 ≡ None
unfolding entry_at
entry_at-none entries = refl

pub entry_at-static : (entries : List Field) (i : ℕ) (f : Field) → (i ≡ 0 → ⊥) → i - 1 < 61 → slice_get static_table (i - 1) ≡ Some f → entry_at entries i ≡ Some f
unfolding entry_at
entry_at-static entries zero f some lt e = absurd (some refl)
entry_at-static entries (suc i) f some lt e =
    let place : suc i - 1 ≡ i = omega arith in
    let within : i < 61 = omega arith in
    rw (lt-ltb i 61 within) (rw place at e)

pub entry_at-dynamic : (entries : List Field) (i : ℕ) → (i ≡ 0 → ⊥) → 61 ≤ i - 1 → entry_at entries i ≡ slice_get entries (i - 1 - 61)
unfolding entry_at
entry_at-dynamic entries zero some le = absurd (some refl)
entry_at-dynamic entries (suc i) some le =
    let place : suc i - 1 ≡ i = omega arith in
    let past : 61 ≤ i = omega arith in
    rw (le-ltb i 61 past, place) refl
