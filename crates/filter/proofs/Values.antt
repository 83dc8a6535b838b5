-- The values of literals, one after another.
use Rattle.std.proofs.Common.{◌≡◌, ℕ, suc, ◌+◌, ◌<◌, ◌≤◌, List, [], ◌∷◌, ◌++◌, length, get_or, drop, Option, Some, None, option_map, option_and_then, refl, sym, ◌∙◌, ap, ap₂, append_assoc, append-nil, add-one, drop-cons, drop_of_length-le}
use Rattle.column_types.specs.declared.cell.Cell.{Cell}
use Rattle.column_types.specs.declared.column.Kind.{Kind}
use Rattle.filter.specs.declared.literal.Literal.{Literal}
use Rattle.filter.specs.Literal.{cell_of, cells_of}

pub rest_at : {X : Type 0} (xs : List X) (i : ℕ) (x : X) → i < length xs → x ≡ get_or xs i x → drop i xs ≡ x ∷ drop (i + 1) xs
rest_at xs i x h is = drop-cons xs i x h ∙ ap₂ (λ y k. y ∷ drop k xs) (sym is) (sym (add-one i))

more_at : (values : List Cell) (value : Cell) (read : Option (List Cell)) →
    option_map (λ more. (values ++ value ∷ []) ++ more) read ≡ option_map (λ more. values ++ more) (option_and_then (λ rest. Some (value ∷ rest)) read)
more_at values value None = refl
more_at values value (Some rest) = ap Some (append_assoc values (value ∷ []) rest)

pub cells_more : (kind : Kind) (values : List Cell) (value : Cell) (literal : Literal) (rest : List Literal) → Some value ≡ cell_of kind literal →
    option_map (λ more. (values ++ value ∷ []) ++ more) (cells_of kind rest) ≡ option_map (λ more. values ++ more) (cells_of kind (literal ∷ rest))
unfolding cells_of
cells_more kind values value literal rest e =
    more_at values value (cells_of kind rest)
    ∙ ap (λ cell. option_map (λ more. values ++ more) (option_and_then (λ value. option_and_then (λ rest. Some (value ∷ rest)) (cells_of kind rest)) cell)) e

pub cells_none : (kind : Kind) (values : List Cell) (literal : Literal) (rest : List Literal) → None ≡ cell_of kind literal →
    None ≡ option_map (λ more. values ++ more) (cells_of kind (literal ∷ rest))
unfolding cells_of
cells_none kind values literal rest e =
    ap (λ cell. option_map (λ more. values ++ more) (option_and_then (λ value. option_and_then (λ rest. Some (value ∷ rest)) (cells_of kind rest)) cell)) e

pub cells_end : (kind : Kind) (values : List Cell) (literals : List Literal) (i : ℕ) → length literals ≤ i → Some values ≡ option_map (λ more. values ++ more) (cells_of kind (drop i literals))
unfolding cells_of
cells_end kind values literals i h =
    ap Some (sym (append-nil values)) ∙ ap (λ rest. option_map (λ more. values ++ more) (cells_of kind rest)) (sym (drop_of_length-le literals {i = i} h))
