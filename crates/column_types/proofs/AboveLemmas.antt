-- The nearest of the nodes above a predicate.
use Rattle.std.proofs.Common.{◌≡◌, ◌<◌, List, [], ◌∷◌, ◌++◌, refl, sym, ◌∙◌, ap, rules, arith}
use Rattle.column_types.specs.declared.predicate.Pred.{Pred, And, Or, Not, size-Pred, the_lemmas}
use Rattle.column_types.specs.declared.predicate.Above.{Above}
use Rattle.column_types.specs.Above.{under, under_one}

pub under-push : (above : List Above) (node : Above) (leaf : Pred) → under (above ++ node ∷ []) leaf ≡ under above (under_one node leaf)
under-push [] node leaf = refl
under-push (first ∷ above) node leaf = ap (under_one first) (under-push above node leaf)

-- The nearest node is taken off, and put round what is there.
pub under-pop : (old new : List Above) (node : Above) (leaf next whole : Pred) →
    old ≡ new ++ node ∷ [] → next ≡ under_one node leaf → under old leaf ≡ whole → under new next ≡ whole
under-pop old new node leaf next whole taken put is =
    ap (under new) put ∙ sym (under-push new node leaf) ∙ ap (λ above. under above leaf) (sym taken) ∙ is

-- A node is put on, and what is left is its left side.
pub under-put : (old new : List Above) (node : Above) (here next whole : Pred) →
    new ≡ old ++ node ∷ [] → here ≡ under_one node next → under old here ≡ whole → under new next ≡ whole
under-put old new node here next whole put is before =
    ap (λ above. under above next) put ∙ under-push old node next ∙ ap (under old) (sym is) ∙ before

pub size-And : (left right : Pred) → size-Pred left < size-Pred (And left right)
size-And left right = first_of (search (rules, the_lemmas), grind (arith, the_lemmas))

pub size-Or : (left right : Pred) → size-Pred left < size-Pred (Or left right)
size-Or left right = first_of (search (rules, the_lemmas), grind (arith, the_lemmas))

pub size-Not : (inner : Pred) → size-Pred inner < size-Pred (Not inner)
size-Not inner = first_of (search (rules, the_lemmas), grind (arith, the_lemmas))
