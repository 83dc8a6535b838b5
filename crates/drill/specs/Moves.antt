-- Through which nodes a session is read, after a reader has read some rows of them and split some.
use Rattle.std.specs.Prelude.{ℕ, zero, suc, ◌%◌, nat_lt, Option, Some, option_map, option_and_then, List, [], ◌∷◌, ◌++◌, length, if◌then◌else◌}
use Rattle.std.specs.List.{range_with_len, fold}
use Rattle.split_tree.specs.Intervals.{size}
use Rattle.split_tree.specs.Nodes.{Nodes, interval_of, children_of}
use Rattle.table_model.specs.History.{History}
use Rattle.table_model.specs.Sessions.{session_of}
use Rattle.drill.specs.declared.moves.Move.{Move}
use Rattle.drill.specs.declared.moves.Move.TheVariants as move

-- What is read in the stead of a node: its two children, or the node itself where it has one row or none. None where a node
-- of two rows or more isn't split.
abbrev pub halves_of : Nodes → ℕ → Option (List ℕ)
halves_of nodes number =
    if nat_lt (size (interval_of nodes number)) 2 then Some (number ∷ [])
    else option_map (λ both. both.0 ∷ both.1 ∷ []) (children_of nodes number)

-- a cut with the node at a place replaced so
abbrev pub halved_at : Nodes → List ℕ → (place : ℕ) → Option (List ℕ)
halved_at nodes [] place = Some []
halved_at nodes (number ∷ more) zero = option_map (λ halves. halves ++ more) (halves_of nodes number)
halved_at nodes (number ∷ more) (suc place) = option_map (λ cut. number ∷ cut) (halved_at nodes more place)

-- A split replaces the node at its place, which counts in the cut as it then is and begins again behind its end. A read
-- changes nothing.
abbrev pub cut_behind : Nodes → Move → List ℕ → Option (List ℕ)
cut_behind nodes (move.Read place count) cut = Some cut
cut_behind nodes (move.Split place) cut = halved_at nodes cut (place % length cut)

-- the roots, behind these moves
abbrev pub cut_in : Nodes → List Move → Option (List ℕ)
cut_in nodes moves = fold (λ cut move. option_and_then (cut_behind nodes move) cut) (Some (range_with_len 0 nodes.roots)) moves

-- the cut of a session to which these moves lead; None where there is no such session, or a node that they split isn't split
abbrev pub cut_of : History → (session : ℕ) → List Move → Option (List ℕ)
cut_of history session moves = option_and_then (λ opened. cut_in opened.nodes moves) (session_of history session)
