-- Tables and the SPECs that describe them.
use Rattle.std.proofs.Common.{◌≡◌, ℕ, zero, suc, ◌<◌, ◌+◌, true, false, List, [], ◌∷◌, ◌++◌, length, map, take, get_or, Some, refl, sym, ap, subst, ◌∙◌, arith, IsTrue}
use Rattle.std.specs.Borrow.{Bor}
use Rattle.std.proofs.lemmas.List.{map-append, length-map, take_more}
use Rattle.column_types.specs.declared.column.Column.{Column}
use Rattle.table_spec.specs.declared.spec.TableSpec.{TableSpec}
use Rattle.table_spec.specs.Spec.{IsSpec}
use Rattle.command_line.specs.Tables.{AreSpecs, AreTables, are_distinct}

pub more_specs : (texts : List (List ℕ)) (text : List ℕ) (tables : List TableSpec) (table : TableSpec) → AreSpecs texts tables → IsSpec text table
    → AreSpecs (texts ++ text ∷ []) (tables ++ table ∷ [])
more_specs [] text [] table are is = (is, tt)
more_specs [] text (t ∷ ts) table are is = absurd are
more_specs (u ∷ us) text [] table are is = absurd are
more_specs (u ∷ us) text (t ∷ ts) table are is = (are.0, more_specs us text ts table are.1 is)

pub spec_at : (texts : List (Bor (List ℕ))) (tables : List TableSpec) (at : ℕ) (d : Bor (List ℕ)) → AreSpecs (map (λ t. t.now) texts) tables → at < length texts
    → (table : TableSpec) × IsSpec (get_or texts at d).now table
spec_at [] tables at d are inside = absurd (omega (arith, inside))
spec_at (u ∷ us) [] at d are inside = absurd are
spec_at (u ∷ us) (t ∷ ts) zero d are inside = (t, are.0)
spec_at (u ∷ us) (t ∷ ts) (suc at) d are inside = spec_at us ts at d are.1 (omega (arith, inside))

-- one text more, with its table
pub more_at : (texts : List (Bor (List ℕ))) (at : ℕ) (d : Bor (List ℕ)) (tables now : List TableSpec) (table : TableSpec) → at < length texts
    → AreSpecs (map (λ t. t.now) (take at texts)) tables → IsSpec (get_or texts at d).now table → now ≡ tables ++ table ∷ []
    → AreSpecs (map (λ t. t.now) (take (at + 1) texts)) now
more_at texts at d tables now table inside are is e =
    let front : map (λ (t : Bor (List ℕ)). t.now) (take (at + 1) texts) ≡ map (λ (t : Bor (List ℕ)). t.now) (take at texts) ++ (get_or texts at d).now ∷ [] =
    ap (map (λ (t : Bor (List ℕ)). t.now)) (take_more texts at d inside) ∙ map-append (λ (t : Bor (List ℕ)). t.now) (take at texts) (get_or texts at d ∷ []) in
    subst (λ (us : List (List ℕ)). AreSpecs us now) (sym front)
    (subst (AreSpecs (map (λ (t : Bor (List ℕ)). t.now) (take at texts) ++ (get_or texts at d).now ∷ [])) (sym e) (more_specs _ (get_or texts at d).now tables table are is))

-- too few and too many texts
pub too_few : (texts : List (Bor (List ℕ))) (tables : List TableSpec) → length texts < 1 → AreTables (map (λ t. t.now) texts) tables → ⊥
too_few texts tables few is = omega (arith, is.some, few, length-map texts (λ (t : Bor (List ℕ)). t.now))

pub too_many : (texts : List (Bor (List ℕ))) (tables : List TableSpec) → 8 < length texts → AreTables (map (λ t. t.now) texts) tables → ⊥
too_many texts tables many is = omega (arith, is.most, many, length-map texts (λ (t : Bor (List ℕ)). t.now))

some_is : {A : Type 0} (x y : A) → Some x ≡ Some y → x ≡ y
some_is x y e = cc

-- a text is one SPEC
pub one_spec : (text : List ℕ) (a b : TableSpec) → IsSpec text a → IsSpec text b → a ≡ b
one_spec text a b is_a is_b =
    let name : a.name ≡ b.name = is_a.name ∙ sym is_b.name in
    let schema : a.schema ≡ b.schema = some_is a.schema b.schema (sym is_a.columns ∙ is_b.columns) in
    ap (λ (n : List ℕ). record { name = n; schema = a.schema }) name ∙ ap (λ (s : List Column). record { name = b.name; schema = s }) schema

one_front : (a b : TableSpec) (cs ds : List TableSpec) → a ≡ b → cs ≡ ds → (a ∷ cs) ≡ (b ∷ ds)
one_front a b cs ds e f = cc

pub same_specs : (texts : List (List ℕ)) (a b : List TableSpec) → AreSpecs texts a → AreSpecs texts b → a ≡ b
same_specs [] [] [] is_a is_b = refl
same_specs [] [] (b ∷ ds) is_a is_b = absurd is_b
same_specs [] (a ∷ cs) ds is_a is_b = absurd is_a
same_specs (u ∷ us) [] ds is_a is_b = absurd is_a
same_specs (u ∷ us) (a ∷ cs) [] is_a is_b = absurd is_b
same_specs (u ∷ us) (a ∷ cs) (b ∷ ds) is_a is_b = one_front a b cs ds (one_spec u a b is_a.0 is_b.0) (same_specs us cs ds is_a.1 is_b.1)

-- tables of which two have one name are none
pub not_distinct : (texts : List (List ℕ)) (tables others : List TableSpec) → AreSpecs texts tables → are_distinct tables ≡ false → AreTables texts others → ⊥
not_distinct texts tables others are same is =
    let e : others ≡ tables = same_specs texts others tables is.specs are in
    let f : true ≡ false = sym (subst (λ (ts : List TableSpec). IsTrue (are_distinct ts)) e is.distinct) ∙ same in
    absurd cc
