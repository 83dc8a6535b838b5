-- Columns that are refused are no schema.
use Rattle.std.proofs.Common.{◌≡◌, ℕ, zero, suc, ◌<◌, ◌≤◌, Bool, true, false, List, [], ◌∷◌, length, take, get_or, Option, Some, None, IsTrue, refl, sym, ap, ◌∙◌, arith}
use Rattle.std.specs.Prelude.{not, ◌&&◌, position, slice_get, option_and_then}
use Rattle.std.specs.List.{list_all}
use Rattle.std.proofs.lemmas.List.Quantifiers.{position-Some}
use Rattle.std.proofs.lemmas.Option.{slice_get_within}
use Rattle.column_types.specs.declared.column.Column.{Column}
use Rattle.column_types.specs.declared.schema.SchemaFault.{SchemaFault}
use Rattle.column_types.specs.declared.schema.SchemaFault.TheVariants as fault
use Rattle.column_types.specs.Schema.{IsSchema, IsFirstRepeat, Refuses, is_well_named, repeated_at, column_number}

and_first : (a b : Bool) → (a && b) ≡ true → a ≡ true
and_first true b e = refl
and_first false b e = absurd cc

and_second : (a b : Bool) → (a && b) ≡ true → b ≡ true
and_second true b e = e
and_second false b e = absurd cc

all_at : (columns : List Column) (at : ℕ) (d : Column) → list_all is_well_named columns ≡ true → at < length columns → is_well_named (get_or columns at d) ≡ true
all_at [] at d good inside = absurd (omega (arith, inside))
all_at (column ∷ columns) zero d good inside = and_first (is_well_named column) (list_all is_well_named columns) good
all_at (column ∷ columns) (suc at) d good inside = all_at columns at d (and_second (is_well_named column) (list_all is_well_named columns) good) (omega (arith, inside))

not_both : (b : Bool) → not b ≡ true → b ≡ true → ⊥
not_both true e f = absurd cc
not_both false e f = absurd cc

first_bad : (columns : List Column) (at : ℕ) (d : Column) → position (λ column. not (is_well_named column)) columns ≡ Some at → list_all is_well_named columns ≡ true → ⊥
first_bad columns at d bad good =
    let p = position-Some (λ column. not (is_well_named column)) columns at d bad in
    not_both (is_well_named (get_or columns at d)) p.1 (all_at columns at d good p.0)

bad : (columns : List Column) (at : ℕ) → 0 < length columns → position (λ column. not (is_well_named column)) columns ≡ Some at → list_all is_well_named columns ≡ true → ⊥
bad [] at some found good = omega (arith, some)
bad (d ∷ columns) at some found good = first_bad (d ∷ columns) at d found good

none_is_none : (first : ℕ) (o : Option ℕ) → o ≡ Some first → o ≡ None → ⊥
none_is_none first o some none = absurd cc

repeats : (columns : List Column) (first second : ℕ) (o : Option Column) → slice_get columns second ≡ o → IsFirstRepeat columns first second → IsSchema columns → ⊥
repeats columns first second None e h is = none_is_none first (repeated_at columns second) h.repeats (ap (option_and_then (λ column. column_number (take second columns) column.name)) e)
repeats columns first second (Some column) e h is = none_is_none first (repeated_at columns second) h.repeats (is.distinct second (slice_get_within columns second column e))

pub refused : (columns : List Column) (f : SchemaFault) → Refuses columns f → IsSchema columns → ⊥
refused columns fault.Memory h is = h
refused columns fault.NoColumns h is = absurd (omega (arith, is.some, ap length h))
refused columns (fault.TooMany count) h is = absurd (omega (arith, is.most, h))
refused columns (fault.BadColumn at) h is = bad columns at h.0 h.2 is.named
refused columns (fault.Repeated first second) h is = repeats columns first second (slice_get columns second) refl h.3 is
